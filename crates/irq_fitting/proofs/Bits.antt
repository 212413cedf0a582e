-- The trailing zeros of a set are its lowest number. Assumes nothing.
use Rattle.facts.proofs.Words.{◌≡◌, refl, sym, ◌∙◌, ◌≢◌, ℕ, zero, suc, ◌/◌, ◌%◌, ◌^◌, ◌≤◌, ◌<◌, two-pow-succ, arith, count_trailing_zeros, under}
use Rattle.facts.specs.{bit, Lowest}
use Rattle.table_read.specs.{HasJust}
use Rattle.table_read.proofs.{lowest_bit, higher_bit}
use Rattle.irq_fitting.specs.{LowestIn}

-- the bit at the end of the trailing zeros is set, and none below it
record LowestBit (m k : ℕ) : Type 0 where
  set : bit m k ≡ 1
  clear : (j : ℕ) → j < k → bit m j ≢ 1

trailing : (d m : ℕ) → m ≢ 0 → m < 2 ^ d → LowestBit m (count_trailing_zeros d m)
unfolding count_trailing_zeros
trailing zero m n l = absurd (n (omega arith))
trailing (suc d) m n l =
    of_each (m % 2) refl (λ e. trailing d (m / 2) (λ z. n (omega (arith, e, z))) (omega (arith, two-pow-succ d)))
  where
    of_each : (r : ℕ) → m % 2 ≡ r → (m % 2 ≡ 0 → LowestBit (m / 2) (count_trailing_zeros d (m / 2)))
        → LowestBit m (under r (count_trailing_zeros d (m / 2)))
    of_each zero e f = record { set = higher_bit m (count_trailing_zeros d (m / 2)) ∙ (f e).set; clear = below }
      where
        below : (j : ℕ) → j < suc (count_trailing_zeros d (m / 2)) → bit m j ≢ 1
        below zero h x = omega (arith, x, lowest_bit m, e)
        below (suc j) h x = (f e).clear j (omega arith) (sym (higher_bit m j) ∙ x)
    of_each (suc r) e f = record { set = lowest_bit m ∙ omega (arith, e); clear = λ j h. absurd (omega arith) }

pub trailing_lowest : (d set : ℕ) → set ≢ 0 → set < 2 ^ d → LowestIn set (count_trailing_zeros d set)
trailing_lowest d set n l = record { fits = low.set; least = λ y e. not_below y (λ h. low.clear y h e) }
  where
    low : LowestBit set (count_trailing_zeros d set)
    low = trailing d set n l

    not_below : (j : ℕ) → (j < count_trailing_zeros d set → ⊥) → count_trailing_zeros d set ≤ j
    not_below j h = omega (arith, h)

-- of a set of just what P says it is the lowest of that
pub lowest_said : {P : ℕ → Type 0} {set l : ℕ} → HasJust set P → LowestIn set l → Lowest P l
lowest_said is low = record { fits = is.only _ low.fits; least = λ y p. low.least y (is.has y p) }
