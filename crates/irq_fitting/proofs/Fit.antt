-- A level fits exactly if it is named, managed and has no grant in the way; and the lowest of the unreserved ones that fit is taken, or of the
-- reserved ones. Assumes nothing.
use Rattle.facts.proofs.Words.{◌≡◌, refl, sym, ◌∙◌, subst, ◌⊎◌, inl, inr, ◌≢◌, Bool, true, false, true≢false, ℕ, ◌^◌, ◌<◌, ap, bit_and, arith, WellFormed}
use Rattle.facts.proofs.Words.{some}
use Rattle.facts.specs.{Facts, IrqAsked, IrqGrant, bit, Holds, Together, Named, Fits, FirstFitting, NoLevelFits, all_levels, most_seats}
use Rattle.facts.proofs.{chosen_first, chosen_then, says_dec}
use Rattle.irq_levels.proofs.{rule_says}
use Rattle.table_read.specs.{HasJust, SomeBelow}
use Rattle.table_read.proofs.{exactly_none, exactly_empty, exactly_one, exactly_as, bit_and_lem}
use Rattle.irq_fitting.specs.declared.Fitting.{Fitting}
use Rattle.irq_fitting.specs.{Goes, LevelBarred, FitsAs, FitsHere, FittingAt, LevelsFitting, LowestIn}
use Rattle.irq_fitting.proofs.Bits.{lowest_said}

module _ (F : Facts) (formed : WellFormed F) where
  -- a grant's seat, and its level, are of a table
  pub seat_below : (s : ℕ) (g : IrqGrant) → F.irq s ≡ some g → s < most_seats
  seat_below s g e = omega (arith, (formed.irqs s g e).socket, formed.sockets_most)

  pub level_below : (s : ℕ) (g : IrqGrant) → F.irq s ≡ some g → g.level < all_levels
  level_below s g e = formed.levels g.level (formed.irqs s g e).managed

  module _ (q : IrqAsked) where
    -- no grant of the level in the way: each goes together with the request
    module _ (way l : ℕ) (in_the_way : HasJust way (LevelBarred F q)) where
      pub fits_said : Named q l → (F.level l).managed ≡ true → bit way l ≢ 1 → Fits F q l
      fits_said named managed clear = record { named = named; managed = managed; free = first_or_not q.first refl }
        where
          alone : (s : ℕ) (g : IrqGrant) → Holds F l s g → (Goes q g.manner → ⊥) → ⊥
          alone s g holds n = clear (in_the_way.has l (s, seat_below s g holds.live, (g, holds, n)))

          together : q.first ≡ false → (s : ℕ) (g : IrqGrant) → Holds F l s g → Together g.manner q.manner
          together e s g holds = so_or_not (says_dec _ (rule_says g.manner q.manner))
            where
              so_or_not : Dec (Together g.manner q.manner) → Together g.manner q.manner
              so_or_not (yes t) = t
              so_or_not (no n) = absurd (alone s g holds (λ x. n x.together))

          first_or_not : (f : Bool) → q.first ≡ f
              → ((s : ℕ) (g : IrqGrant) → Holds F l s g → ⊥)
              ⊎ ((q.first ≡ false) × ((s : ℕ) (g : IrqGrant) → Holds F l s g → Together g.manner q.manner))
          first_or_not true e = inl (λ s g holds. alone s g holds (λ x. true≢false (sym e ∙ x.not_first)))
          first_or_not false e = inr (e, together e)

      pub said_free : Fits F q l → bit way l ≢ 1
      said_free x e = none_stands x.free (in_the_way.only l e)
        where
          none_stands : ((s : ℕ) (g : IrqGrant) → Holds F l s g → ⊥)
              ⊎ ((q.first ≡ false) × ((s : ℕ) (g : IrqGrant) → Holds F l s g → Together g.manner q.manner))
              → LevelBarred F q l → ⊥
          none_stands (inl none) (s, h, (g, holds, stands)) = none s g holds
          none_stands (inr x) (s, h, (g, holds, stands)) = stands (record { not_first = x.0; together = x.1 s g holds })

    -- each that is named has a grant in the way: none fits
    pub all_barred : (way : ℕ) → HasJust way (LevelBarred F q) → bit_and q.named way ≡ q.named → NoLevelFits F q
    all_barred way in_the_way e l x =
        said_free way l in_the_way x (omega (arith, ap (λ (n : ℕ). bit n l) e, bit_and_lem q.named way l, x.named))

    -- one that fits is a table's level: the levels that fit are those found below the last
    pub all_fitting : {reserved : Bool} {set : ℕ} → HasJust set (SomeBelow all_levels (FitsHere F q reserved)) → HasJust set (FitsAs F q reserved)
    all_fitting {reserved} is =
        exactly_as is (λ k x. subst (FitsAs F q reserved) x.2.1 x.2.0)
        (λ l x. (l, formed.levels l x.0.managed, (x, refl)))

module _ (F : Facts) (q : IrqAsked) where
  -- the levels that fit and aren't reserved; and those that are
  module _ (r : Fitting) (are : LevelsFitting F q r) where
    abbrev Early : ℕ → Type 0
    Early l = (F.level l).reserved ≡ false

    marked_or_not : (v : Bool) (l : ℕ) → (F.level l).reserved ≡ v → Dec (Early l)
    marked_or_not true l e = no (λ f. true≢false (sym e ∙ f))
    marked_or_not false l e = yes e

    -- an unreserved level fits: the lowest of them is taken
    pub unreserved_taken : (l : ℕ) → LowestIn r.unreserved l → FirstFitting F q l
    unreserved_taken l low = chosen_first (λ y x. marked_or_not _ y refl) (lowest_said are.unreserved low)

    -- none does: the lowest of the reserved ones is taken; or there is none of these, too
    module _ (none : r.unreserved ≡ 0) where
      not_early : (y : ℕ) → Fits F q y → Early y → ⊥
      not_early y x e = exactly_empty are.unreserved none y (x, e)

      late : HasJust r.reserved (Fits F q)
      late = exactly_as are.reserved (λ k x. x.0) (λ l x. (x, reserved_or_not (F.level l).reserved l x refl))
        where
          reserved_or_not : (v : Bool) (l : ℕ) → Fits F q l → (F.level l).reserved ≡ v → (F.level l).reserved ≡ true
          reserved_or_not true l x e = e
          reserved_or_not false l x e = absurd (not_early l x e)

      pub reserved_taken : (l : ℕ) → LowestIn r.reserved l → FirstFitting F q l
      reserved_taken l low = chosen_then not_early (lowest_said late low)

      pub none_fits : r.reserved ≡ 0 → NoLevelFits F q
      none_fits e = exactly_empty late e

  -- the set of a level that fits, or of none
  module _ (l : ℕ) where
    pub none_here : (Fits F q l → ⊥) → FittingAt F q l (record { unreserved = 0; reserved = 0 })
    none_here n = record { unreserved = exactly_none (λ k x. n x.0.0); reserved = exactly_none (λ k x. n x.0.0) }

    module _ (fits : Fits F q l) (set : ℕ) (one : set ≡ 2 ^ l) where
      level_set : {reserved : Bool} → (F.level l).reserved ≡ reserved → HasJust set (FitsHere F q reserved l)
      level_set e = rw one (exactly_one l ((fits, e), refl) (λ k x. x.1))

      pub unreserved_here : (F.level l).reserved ≡ false → FittingAt F q l (record { unreserved = set; reserved = 0 })
      unreserved_here e = record { unreserved = level_set e; reserved = exactly_none (λ k x. true≢false (sym x.0.1 ∙ e)) }

      pub reserved_here : (F.level l).reserved ≡ true → FittingAt F q l (record { unreserved = 0; reserved = set })
      reserved_here e = record { unreserved = exactly_none (λ k x. true≢false (sym e ∙ x.0.1)); reserved = level_set e }
