-- What the record of an I/O grant says; and that a table with another record is the image of the facts with that grant. Assumes nothing.
use Rattle.facts.proofs.Words.{◌≡◌, refl, subst, ⊎_elim, List, ◌∷◌, ◌++◌, [], Option, none, some, ℕ, ◌+◌, ◌<◌, arith, replicate}
use Rattle.facts.specs.declared.Ports.{Ports}
use Rattle.layout.proofs.Of
use Rattle.facts.specs.{IoGrant, with_io, most_clients, most_seats}
use Rattle.layout.specs.{image, two, io_bytes, mark, io_place_lem, ports_in, io_in, Accepted, io_entered, io_base_at, io_count_at, io_lines_at, io_shared_at}
use Rattle.layout.proofs.Image.{parts, io_size_lem}
use Rattle.layout.proofs.Shows.{put_image}
use Rattle.layout.proofs.Entered.{Wrote, wrote_none, wrote_byte, wrote_word, wrote_zeros}

-- what a grant's record says, field by field
module _ (b : List ℕ) (s : ℕ) where
  pub ports_are : ◌≡◌ {A = Ports} (io_in b s).ports (ports_in b (io_place_lem s))
  unfolding io_in
  ports_are = refl

-- the facts with the grant g, and with none
module _ (b : List ℕ) (a : Accepted b) (s : ℕ) (l : s < most_seats) where
  -- a record is written, but for its spare bytes, which are zero whether there is a grant or not
  io_written : (o : Option IoGrant) (client base count lines shared : ℕ) → client < 65536 → base < 65536
      → (two client ++ two base ++ count ∷ lines ∷ shared ∷ []) ++ replicate 4 0 ≡ io_bytes o
      → image (with_io a.facts s o) ≡ io_entered b s client base count lines shared
  unfolding io_entered
  io_written o client base count lines shared low based is =
      let place = io_place_lem s in
      let w = Of.shows_in b a in
      let w₁ = wrote_word (wrote_none b place) place client (omega arith) (omega (arith, w.size)) low in
      let w₂ = wrote_word w₁ (place + io_base_at) base refl (omega (arith, w.size)) based in
      let w₃ = wrote_byte w₂ (place + io_count_at) count refl (omega (arith, w.size)) in
      let w₄ = wrote_byte w₃ (place + io_lines_at) lines refl (omega (arith, w.size)) in
      let w₅ = wrote_byte w₄ (place + io_shared_at) shared refl (omega (arith, w.size)) in
      let wrote = subst (λ (x : List ℕ). Wrote b place x (io_entered b s client base count lines shared)) is
      (wrote_zeros w₅ 4 (λ q h m. ⊎_elim (λ z. z q (omega arith) (omega arith)) (λ g. g.1.spare q h (omega arith)) ((Of.sound_in b a).ios s (omega arith)))) in
      put_image io_bytes a.facts.io s o 6 (parts most_clients a.facts) refl (io_size_lem o) (omega arith) wrote w.shown
      (with_io a.facts s o) w.size w.heads (λ t. t)

  pub granted_image : (g : IoGrant) → g.client < 65536 → g.ports.base < 65536
      → image (with_io a.facts s (some g))
      ≡ io_entered b s g.client g.ports.base g.ports.count g.ports.lines (mark g.shared)
  granted_image g low based =
      io_written (some g) g.client g.ports.base g.ports.count g.ports.lines (mark g.shared) low based refl

  pub released_image : image (with_io a.facts s none) ≡ io_entered b s 0 0 0 0 0
  released_image = io_written none 0 0 0 0 0 (omega arith) (omega arith) refl
