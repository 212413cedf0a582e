-- What a seat's record says once it is entered, and of whom a grant is. Assumes nothing.
use Rattle.std.specs.Prelude.{◌&&◌}
use Rattle.facts.proofs.Words.{◌≡◌, refl, ap, sym, ◌∙◌, Says, eqb, true, false, List, none, some, none-ne-some, some-injective, ℕ, ◌+◌, set, subst}
use Rattle.facts.specs.{Facts, IrqGrant, HeldPorts, with_word, IoHeld, IrqHeld}
use Rattle.facts.proofs.{says_eq, says_as, says_both, says_yes, says_no}
use Rattle.layout.specs.{io_place_lem, irq_place_lem, io_entered, irq_entered, io_base_at, io_count_at, io_lines_at, io_shared_at, irq_level_at, irq_manner_at}

-- a record's writes, one after the other: two numbers of two bytes, then three bytes
pub enters_ports : (b b₁ b₂ : List ℕ) (at s client base : ℕ) → at ≡ io_place_lem s → b₁ ≡ with_word b at client → b₂ ≡ with_word b₁ (at + io_base_at) base
    → (count lines shared : ℕ)
    → set (set (set b₂ (at + io_count_at) count) (at + io_lines_at) lines) (at + io_shared_at) shared ≡ io_entered b s client base count lines shared
unfolding io_entered
enters_ports b b₁ b₂ at s client base place put₁ put₂ count lines shared = rw (put₂, put₁, place)

-- what ports are held at a seat: whether they are this client's, at that base and of that count
module _ (F : Facts) (h s base count : ℕ) where
  pub no_ports : F.io s ≡ none → IoHeld F h s base count → ⊥
  no_ports e x = none-ne-some x.range (sym e ∙ x.held)

  pub ports_said : (y : HeldPorts) → F.io s ≡ some y
      → Says (eqb y.client h && eqb y.ports.base base && eqb y.ports.count count) (IoHeld F h s base count)
  ports_said y e =
      says_as (says_both (says_both (says_eq _ _) (says_eq _ _)) (says_eq _ _))
      (λ z. record { range = y; held = e; client = z.0.0; base_is = z.0.1; count_is = z.1 })
      (λ x. subst (λ (z : HeldPorts). ((z.client ≡ h) × (z.ports.base ≡ base)) × (z.ports.count ≡ count))
      (some-injective x.range y (sym x.held ∙ e)) ((x.client, x.base_is), x.count_is))

-- a record's writes, one after the other
pub enters_level : (b b₁ : List ℕ) (at s client : ℕ) → at ≡ irq_place_lem s → b₁ ≡ with_word b at client → (level manner : ℕ)
    → set (set b₁ (at + irq_level_at) level) (at + irq_manner_at) manner ≡ irq_entered b s client level manner
unfolding irq_entered
enters_level b b₁ at s client place put level manner = rw (put, place)

-- what level is held at a seat: nothing, or one grant
module _ (F : Facts) (h s l : ℕ) where
  pub no_level : F.irq s ≡ none → (g : IrqGrant) → IrqHeld F h s l g → ⊥
  no_level e g x = none-ne-some g (sym e ∙ x.live)

  module _ (y : IrqGrant) (e : F.irq s ≡ some y) where
    pub level_held : (eqb y.client h && eqb y.level l) ≡ true → IrqHeld F h s l (record { client = h; level = l; manner = y.manner })
    level_held t =
        let same = says_yes (says_both (says_eq y.client h) (says_eq y.level l)) t in
        record { live = rw (← same.0, ← same.1) e; client = refl; level = refl }

    pub other_level : (eqb y.client h && eqb y.level l) ≡ false → (g : IrqGrant) → IrqHeld F h s l g → ⊥
    other_level t g x =
        let is : y ≡ g = some-injective y g (sym e ∙ x.live) in
        says_no (says_both (says_eq y.client h) (says_eq y.level l)) t (ap (λ (z : IrqGrant). z.client) is ∙ x.client, ap (λ (z : IrqGrant). z.level) is ∙ x.level)
