-- Two searches for the lowest, one among the early ones and one among all, find the first; and a count has one smallest power of two.
-- Assumes nothing.
use Rattle.facts.proofs.Words.{◌≡◌, by_cases, inl, inr, ℕ, arith}
use Rattle.facts.specs.{Chosen, Lowest, SmallestPower}

module _ {Fit Early : ℕ → Type 0} {x : ℕ} where
  -- the lowest of the early ones comes first
  pub chosen_first : ((y : ℕ) → Fit y → Dec (Early y)) → Lowest (λ y. Fit y × Early y) x → Chosen Fit Early x
  chosen_first decided low =
      record {
        fits = low.fits.0;
        first = λ y f. by_cases (decided y f) (λ e. inr (((λ _. e), (λ _. low.fits.1)), low.least y (f, e))) (λ n. inl (low.fits.1, n));
      }

  -- where none is early, the lowest of all does
  pub chosen_then : ((y : ℕ) → Fit y → Early y → ⊥) → Lowest Fit x → Chosen Fit Early x
  chosen_then none low =
      record {
        fits = low.fits;
        first = λ y f. inr (((λ e. absurd (none x low.fits e)), (λ e. absurd (none y f e))), low.least y f);
      }

pub smallest_power_unique : (n a b : ℕ) → SmallestPower n a → SmallestPower n b → a ≡ b
smallest_power_unique n a b s t = omega (arith, s.smallest t.power (omega (arith, t.is)), t.smallest s.power (omega (arith, s.is)))
