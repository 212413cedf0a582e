-- Accepted bytes are exactly the images of well-formed sets, each of one set. Assumes nothing.
use Rattle.facts.proofs.Words.{◌≡◌, sym, ◌∙◌, List, ℕ, arith, length, WellFormed}
use Rattle.layout.proofs.Of
use Rattle.facts.specs.{Facts, Bytes, most_clients}
use Rattle.layout.specs.{image, facts_in, Accepted, table_size}
use Rattle.layout.specs.Sound.{Sound}
use Rattle.layout.proofs.RoundTrip.{image_injective}
use Rattle.layout.proofs.Image.{image_length}
use Rattle.layout.proofs.Shows.{shows_image}
use Rattle.layout.proofs.Whole.{whole}
use Rattle.layout.proofs.Formed.{formed}

-- sound bytes are the image of a well-formed set
pub sound_accepted : (b : List ℕ) → Bytes b → Sound b → Accepted b
sound_accepted b bytes s =
    record {
      facts = facts_in b;
      formed = formed (omega arith) b bytes s;
      is = shows_image (facts_in b) b (omega arith) (whole b bytes (omega arith) s (omega arith));
    }

-- the image of a well-formed set is sound
pub accepted_sound : (b : List ℕ) → Accepted b → Sound b
accepted_sound = Of.sound_in

-- no two well-formed sets have one image
pub one_set : (b : List ℕ) (F G : Facts) → WellFormed F → WellFormed G → image F ≡ b → image G ≡ b → F ≡ G
one_set b F G w v p q = image_injective F G w v (p ∙ sym q)

-- the image of a set has the table's size
pub image_size : (F : Facts) → length (image F) ≡ table_size
image_size F = image_length most_clients table_size F (omega arith)
