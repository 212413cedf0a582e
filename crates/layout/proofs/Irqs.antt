-- A table with another record of an IRQ grant is the image of the facts with that grant. Assumes nothing.
use Rattle.facts.proofs.Words.{◌≡◌, refl, subst, List, [], ◌∷◌, ◌++◌, Option, none, some, ℕ, ◌+◌, ◌<◌, arith}
use Rattle.layout.proofs.Of
use Rattle.facts.specs.{IrqGrant, with_irq, most_clients, most_seats}
use Rattle.layout.specs.{image, two, irq_bytes, manner_byte_lem, irq_place_lem, Accepted, irq_entered, irq_level_at, irq_manner_at}
use Rattle.layout.proofs.Image.{parts, irq_size_lem}
use Rattle.layout.proofs.Shows.{put_image}
use Rattle.layout.proofs.Entered.{Wrote, wrote_none, wrote_byte, wrote_word}

-- the facts with the grant g, and with none
module _ (b : List ℕ) (a : Accepted b) (s : ℕ) (l : s < most_seats) where
  irq_written : (o : Option IrqGrant) (client level manner : ℕ) → client < 65536 → two client ++ level ∷ manner ∷ [] ≡ irq_bytes o
      → image (with_irq a.facts s o) ≡ irq_entered b s client level manner
  unfolding irq_entered
  irq_written o client level manner low is =
      let place = irq_place_lem s in
      let w = Of.shows_in b a in
      let w₁ = wrote_word (wrote_none b place) place client (omega arith) (omega (arith, w.size)) low in
      let w₂ = wrote_byte w₁ (place + irq_level_at) level refl (omega (arith, w.size)) in
      let w₃ = wrote_byte w₂ (place + irq_manner_at) manner refl (omega (arith, w.size)) in
      let wrote = subst (λ (x : List ℕ). Wrote b place x (irq_entered b s client level manner)) is w₃ in
      put_image irq_bytes a.facts.irq s o 7 (parts most_clients a.facts) refl (irq_size_lem o) (omega arith) wrote w.shown
      (with_irq a.facts s o) w.size w.heads (λ t. t)

  pub granted_image : (g : IrqGrant) → g.client < 65536
      → image (with_irq a.facts s (some g)) ≡ irq_entered b s g.client g.level (manner_byte_lem g.manner)
  granted_image g low = irq_written (some g) g.client g.level (manner_byte_lem g.manner) low refl

  pub released_image : image (with_irq a.facts s none) ≡ irq_entered b s 0 0 0
  released_image = irq_written none 0 0 0 (omega arith) refl
