-- What an answer says is held at a seat is what the bytes say, and, of a table that is accepted, its facts. Assumes nothing.
use Rattle.std.specs.Prelude as std
use Rattle.std.specs.Prelude.{Some, None}
use Rattle.facts.proofs.Words.{◌≡◌, ◌≢◌, refl, ap, sym, ◌∙◌, List, Option, none, some, cond, eqb, by_cases, ℕ, ◌<◌, arith, ℕ_discrete, WellFormed, subst}
use Rattle.facts.specs.{Facts, IoGrant, IrqGrant, most_seats, word}
use Rattle.facts.proofs.{told}
use Rattle.layout.specs.{Accepted, seat_room, facts_in, io_here, io_in, io_place_lem, irq_here, irq_in, irq_place_lem}
use Rattle.layout.proofs.{below_in, zero_test, positive_test}
use Rattle.layout.proofs.Of
use Rattle.seats.specs.declared.HeldPorts.{HeldPorts}
use Rattle.seats.specs.declared.HeldLevel.{HeldLevel}
use Rattle.seats.specs.{Recorded, HeldIs, LevelHeldIs, io_at, irq_at, HeldBy, IoHeldBy, IrqHeldBy}

-- the facts that the bytes of an accepted table say are well formed
pub formed_in : (b : List ℕ) → Accepted b → WellFormed (facts_in b)
formed_in b a = subst WellFormed (Of.facts_in_lem b a) a.formed

-- a grant is there where its record says a client, and is that client's
module _ {G : Type 0} (w : ℕ) (g : G) {o : Option G} (here : o ≡ cond (eqb w 0) none (some g)) where
  there : w ≢ 0 → o ≡ some g
  there d = here ∙ positive_test w none (some g) (omega (arith, d))

  not_there : (w ≢ 0 → ⊥) → o ≡ none
  not_there n = here ∙ zero_test w none (some g) (told (ℕ_discrete w 0) n)

  module _ (client : G → ℕ) (is : client g ≡ w) (h : ℕ) where
    said_by : (h ≢ 0) × (w ≡ h) → HeldBy client h o
    said_by r = subst (HeldBy client h) (sym (there (λ z. r.0 (sym r.1 ∙ z)))) (is ∙ r.1)

    by_said : HeldBy client h o → (h ≢ 0) × (w ≡ h)
    by_said x =
        by_cases (ℕ_discrete w 0) (λ z. absurd (subst (HeldBy client h) (not_there (λ d. d z)) x))
        (λ d. let e = sym is ∙ subst (HeldBy client h) (there d) x in (λ z. d (e ∙ z), e))

module _ (b : List ℕ) (s : ℕ) (l : s < most_seats) where
  -- of an I/O grant: what an answer says, and whose it is
  io_here_lem : (facts_in b).io s ≡ cond (eqb (word b (io_place_lem s)) 0) none (some (io_in b s))
  unfolding facts_in io_here
  io_here_lem = below_in seat_room none (io_here b) s (omega arith)

  pub io_read : (r : std.Option HeldPorts) → HeldIs b s r → (facts_in b).io s ≡ io_at r
  io_read (Some x) h = there (word b (io_place_lem s)) (io_in b s) io_here_lem h.0 ∙ ap some (sym h.1)
  io_read None h = not_there (word b (io_place_lem s)) (io_in b s) io_here_lem h

  pub io_said_by : (h : ℕ) → Recorded b (io_place_lem s) h → IoHeldBy b h s
  unfolding io_in
  io_said_by = said_by (word b (io_place_lem s)) (io_in b s) io_here_lem (λ (g : IoGrant). g.client) refl

  pub io_by_said : (h : ℕ) → IoHeldBy b h s → Recorded b (io_place_lem s) h
  unfolding io_in
  io_by_said = by_said (word b (io_place_lem s)) (io_in b s) io_here_lem (λ (g : IoGrant). g.client) refl

  -- of an IRQ grant
  irq_here_lem : (facts_in b).irq s ≡ cond (eqb (word b (irq_place_lem s)) 0) none (some (irq_in b s))
  unfolding facts_in irq_here
  irq_here_lem = below_in seat_room none (irq_here b) s (omega arith)

  pub irq_read : (r : std.Option HeldLevel) → LevelHeldIs b s r → (facts_in b).irq s ≡ irq_at r
  irq_read (Some x) h = there (word b (irq_place_lem s)) (irq_in b s) irq_here_lem h.0 ∙ ap some (sym h.1)
  irq_read None h = not_there (word b (irq_place_lem s)) (irq_in b s) irq_here_lem h

  pub irq_said_by : (h : ℕ) → Recorded b (irq_place_lem s) h → IrqHeldBy b h s
  unfolding irq_in
  irq_said_by = said_by (word b (irq_place_lem s)) (irq_in b s) irq_here_lem (λ (g : IrqGrant). g.client) refl

  pub irq_by_said : (h : ℕ) → IrqHeldBy b h s → Recorded b (irq_place_lem s) h
  unfolding irq_in
  irq_by_said = by_said (word b (irq_place_lem s)) (irq_in b s) irq_here_lem (λ (g : IrqGrant). g.client) refl

  -- of an accepted table's facts: the answer is a range exactly if it is held there
  module _ (a : Accepted b) where
    pub io_held_lem : (r : std.Option HeldPorts) → HeldIs b s r → a.facts.io s ≡ io_at r
    io_held_lem r h = ap (λ (F : Facts). F.io s) (Of.facts_in_lem b a) ∙ io_read r h

    pub irq_held_lem : (r : std.Option HeldLevel) → LevelHeldIs b s r → a.facts.irq s ≡ irq_at r
    irq_held_lem r h = ap (λ (F : Facts). F.irq s) (Of.facts_in_lem b a) ∙ irq_read r h
