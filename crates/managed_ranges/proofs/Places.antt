-- Where a base belongs among the ranges; ports that are free, a range that is found, and the one that comes next. Assumes nothing.
use Rattle.facts.proofs.Words.{◌≡◌, refl, ap, ◌∙◌, inl, inr, ⊎_elim, List, ℕ, ◌+◌, ◌-◌, ◌≤◌, ◌<◌, dec_le, dec_lt, arith, eq-or-lt_of_le}
use Rattle.layout.proofs.Of
use Rattle.facts.proofs.{told}
use Rattle.std.specs.Prelude.{Some, None}
use Rattle.facts.specs.{Range, ◌∈◌, Within}
use Rattle.layout.specs.{ranges_in, range_in, Accepted, RangesSound, ManagedIn, range_base, range_count, end_before_lem}
use Rattle.layout.proofs.{range_end, end_before, ends_before, bases_rise}
use Rattle.managed_ranges.specs.{PlaceOf, StartIs, FreeAt, NextRangeIs}

-- no later range has a lower base
rise : {b : List ℕ} → RangesSound b → (j i : ℕ) → j ≤ i → i < ranges_in b → range_base b j ≤ range_base b i
rise {b} s j i l h =
    ⊎_elim (λ e. omega (arith, ap (range_base b) e)) (λ m. omega (arith, bases_rise b s j i m h)) (eq-or-lt_of_le l)

-- the walk down from the last one: those from i on have no base below the number
pub record Down (b : List ℕ) (from i : ℕ) : Type 0 where
  pub within : i ≤ ranges_in b
  pub behind : (j : ℕ) → i ≤ j → j < ranges_in b → from ≤ range_base b j

module _ {b : List ℕ} {from i : ℕ} (d : Down b from i) where
  pub down_found : RangesSound b → 0 < i → range_base b (i - 1) < from → PlaceOf b from i
  down_found s l h =
      record { within = d.within; ahead = λ j m. omega (arith, rise s j (i - 1) (omega arith) (omega (arith, d.within))); behind = d.behind }

module _ {b : List ℕ} (s : RangesSound b) where
  -- new ports and the ranges next to their place
  module _ {base count i : ℕ} (place : PlaceOf b base i) where
    pub untaken : {x : ℕ} → end_before_lem b i ≤ base → StartIs b i x → base + count ≤ x → FreeAt b base count i
    untaken {x} before after h = record { place = place; free = λ p w m. below_or_not p w m (dec_lt m.0 i) after }
      where
        ends : (j : ℕ) → j < i → range_end b j ≤ base
        ends j l =
            let last : range_end b (i - 1) ≤ base = omega (arith, end_before b i (omega arith)) in
            let m : j ≤ i - 1 = omega arith in
            ⊎_elim (λ e. omega (arith, ap (range_end b) e)) (λ n. omega (arith, ends_before b s j (i - 1) n (omega (arith, place.within))))
            (eq-or-lt_of_le m)

        below_or_not : (p : ℕ) → Within p base count → (m : ManagedIn b p) → Dec (m.0 < i) → StartIs b i x → ⊥
        below_or_not p w m (yes l) y = omega (arith, ends m.0 l)
        below_or_not p w m (no l) (inl y) = omega (arith, y.1, rise s i m.0 (omega arith) m.1)
        below_or_not p w m (no l) (inr y) = omega (arith, y.0)

-- the range that comes next
module _ {b : List ℕ} {from i : ℕ} (place : PlaceOf b from i) where
  -- a range whose base isn't below the number stands at or past the place
  past : (a : Accepted b) (r : Range) (j : ℕ) → r ≡ range_in b j → from ≤ r.base → i ≤ j
  past a r j e h =
      told (dec_le i j) (λ n. omega (arith, place.ahead j (omega arith), ap (λ (x : Range). x.base) e ∙ Of.range_base_lem b a j))

  pub next_none : ranges_in b ≤ i → NextRangeIs b from None
  next_none n a r m h = let x = Of.listed_range b a r m in omega (arith, past a r x.0 x.2 h, x.1)

  pub next_found : i < ranges_in b → NextRangeIs b from (Some (range_base b i, range_count b i))
  next_found l a =
      let here = Of.range_base_lem b a i in
      let listed = Of.range_listed b a i l in
      let fits : from ≤ (range_in b i).base = omega (arith, place.behind i (omega arith) l) in
      record {
        range = range_in b i;
        listed = listed;
        base_is = here;
        count_is = Of.range_count_lem b a i;
        lowest = record { fits = (range_in b i, listed, refl, fits); least = least here };
      }
    where
      least : (range_in b i).base ≡ range_base b i → (y : ℕ) → (r : Range) × (r ∈ a.facts.ranges) × (r.base ≡ y) × (from ≤ y) → (range_in b i).base ≤ y
      least here y x =
          let j = Of.listed_range b a x.0 x.1 in
          let m : i ≤ j.0 = past a x.0 j.0 j.2 (omega (arith, x.2, x.3)) in
          omega (arith, x.2, ap (λ (r : Range). r.base) j.2 ∙ Of.range_base_lem b a j.0, rise (Of.sound_in b a).ranges i j.0 m j.1)
