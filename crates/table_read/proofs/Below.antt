-- What holds of every number below a bound: how a loop that stops at the first that fails decides it. Assumes nothing.
use Rattle.facts.proofs.Words.{sym, subst, ⊎_elim, ℕ, ◌+◌, ◌≤◌, ◌<◌, eq-or-lt_of_le, arith}

abbrev pub All : ℕ → (ℕ → Type 0) → Type 0
All n P = (i : ℕ) → i < n → P i

pub all_none : (P : ℕ → Type 0) → All 0 P
all_none P i l = absurd (omega arith)

pub all_more : {P : ℕ → Type 0} {n : ℕ} → All n P → P n → All (n + 1) P
all_more {P} {n} a p i l = let k : i ≤ n = omega arith in ⊎_elim (λ e. subst P (sym e) p) (a i) (eq-or-lt_of_le k)

-- what the loop keeps: it has come to i, which is not past n, and each before i is P
pub record SoFar (n : ℕ) (P : ℕ → Type 0) (i : ℕ) : Type 0 where
  pub within : i ≤ n
  pub each : All i P

module _ {n : ℕ} {P : ℕ → Type 0} where
  pub so_far_none : SoFar n P 0
  so_far_none = record { within = omega arith; each = all_none P }

  pub so_far_more : {i : ℕ} → SoFar n P i → i < n → P i → SoFar n P (i + 1)
  so_far_more a h p = record { within = omega arith; each = all_more a.each p }
