-- The levels that grants hold, as sets: of one seat. Assumes nothing.
use Rattle.std.specs.Prelude.{Some}
use Rattle.facts.proofs.Words.{◌≡◌, refl, ap, sym, ◌∙◌, subst, none, some, none-ne-some, some-injective, List, ℕ, ◌^◌, ◌<◌}
use Rattle.facts.specs.{Facts, IrqAsked, IrqGrant, Manner, Holds, all_levels, most_seats}
use Rattle.layout.specs.{Accepted, facts_in}
use Rattle.table_read.specs.{HasJust}
use Rattle.table_read.proofs.{exactly_none, exactly_one}
use Rattle.seats.specs.{LevelHeldIs, grant}
use Rattle.seats.specs.declared.HeldLevel.{HeldLevel}
use Rattle.seats.proofs.{formed_in, irq_read}
use Rattle.irq_fitting.specs.{Goes, HeldAs, LevelsAt}
use Rattle.irq_fitting.proofs.Fit.{level_below}

-- a level that is held is a table's
pub held_below : {b : List ℕ} → Accepted b → (s : ℕ) → s < most_seats → (held : HeldLevel) → LevelHeldIs b s (Some held) → held.level < all_levels
held_below {b} a s below held is = level_below (facts_in b) (formed_in b a) s (grant held) (irq_read b s below (Some held) is)

module _ (F : Facts) (q : IrqAsked) (s : ℕ) where
  -- without a grant there is no level
  pub none_at : F.irq s ≡ none → LevelsAt F q s (record { way = 0; together = 0 })
  none_at e = record { way = exactly_none (λ l x. free x.1); together = exactly_none (λ l x. free x.1) }
    where
      free : {l : ℕ} {g : IrqGrant} → Holds F l s g → ⊥
      free {l} {g} x = none-ne-some g (sym e ∙ x.live)

  -- with one there is its level, in one of the two sets
  module _ (g : IrqGrant) (e : F.irq s ≡ some g) (set : ℕ) (one : set ≡ 2 ^ g.level) where
    same : {l : ℕ} {h : IrqGrant} → Holds F l s h → g ≡ h
    same {l} {h} x = some-injective g h (sym e ∙ x.live)

    level_set : (P : Manner → Type 0) → P g.manner → HasJust set (HeldAs F P s)
    level_set P p =
        rw one (exactly_one g.level (g, record { live = e; at = refl }, p) (λ k x. ap (λ (h : IrqGrant). h.level) (same x.1) ∙ x.1.at))

    no_level : (P : Manner → Type 0) → (P g.manner → ⊥) → HasJust 0 (HeldAs F P s)
    no_level P n = exactly_none (λ l x. n (subst (λ (h : IrqGrant). P h.manner) (sym (same x.1)) x.2))

    pub goes_at : Goes q g.manner → LevelsAt F q s (record { way = 0; together = set })
    goes_at x = record { way = no_level (λ m. Goes q m → ⊥) (λ n. n x); together = level_set (Goes q) x }

    pub stands_at : (Goes q g.manner → ⊥) → LevelsAt F q s (record { way = set; together = 0 })
    stands_at n = record { way = level_set (λ m. Goes q m → ⊥) n; together = no_level (Goes q) n }
