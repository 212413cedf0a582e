-- The lowest of what the numbers below a bound say, and one number more: what a loop over the seats knows of the holders. Assumes nothing.
use Rattle.facts.proofs.Words.{◌≡◌, subst, ◌⊎◌, inl, inr, ⊎_elim, ℕ, ◌+◌, ◌≤◌, min, eq-or-lt_of_le, dec_lt, arith, by_cases}
use Rattle.facts.specs.{Lowest}
use Rattle.table_read.specs.{SomeBelow}
use Rattle.managed_holders.specs.declared.Holders.{Holders}
use Rattle.std.specs.Prelude.{Option, Some, None}
use Rattle.managed_holders.specs.{HereIs, AreBelow, together}

module _ (n : ℕ) (Q : ℕ → ℕ → Type 0) where
  -- one that is below n + 1 is below n, or n
  below_or_here : (x : ℕ) → SomeBelow (n + 1) Q x → SomeBelow n Q x ⊎ Q n x
  below_or_here x (s, l, q) =
      let k : s ≤ n = omega arith in ⊎_elim (λ e. inr (subst (λ (t : ℕ). Q t x) e q)) (λ m. inl (s, m, q)) (eq-or-lt_of_le k)

  wider : {x : ℕ} → SomeBelow n Q x → SomeBelow (n + 1) Q x
  wider (s, l, q) = (s, omega (arith, l), q)

  -- n says nothing
  lowest_kept : {x : ℕ} → Lowest (SomeBelow n Q) x → ((y : ℕ) → Q n y → ⊥) → Lowest (SomeBelow (n + 1) Q) x
  lowest_kept low none = record { fits = wider low.fits; least = λ y f. ⊎_elim (low.least y) (λ q. absurd (none y q)) (below_or_here y f) }

  -- n says x alone
  module _ {x : ℕ} (q : Q n x) (only : (y : ℕ) → Q n y → y ≡ x) where
    lowest_first : ((y : ℕ) → SomeBelow n Q y → ⊥) → Lowest (SomeBelow (n + 1) Q) x
    lowest_first none =
        record { fits = (n, omega arith, q); least = λ y f. ⊎_elim (λ p. absurd (none y p)) (λ p. omega (arith, only y p)) (below_or_here y f) }

    lowest_more : {w : ℕ} → Lowest (SomeBelow n Q) w → Lowest (SomeBelow (n + 1) Q) (min w x)
    lowest_more {w} low =
        record {
          fits = by_cases (dec_lt x w) (λ l. subst (SomeBelow (n + 1) Q) (omega arith) (n, omega arith, q))
              (λ l. subst (SomeBelow (n + 1) Q) (omega arith) (wider low.fits));
          least = λ y f. ⊎_elim (λ p. omega (arith, low.least y p)) (λ p. omega (arith, only y p)) (below_or_here y f);
        }

-- the holders at the seats below n, and at n
pub holders_more : (n : ℕ) (P : ℕ → ℕ → ℕ → Type 0) (some more : Option Holders) → AreBelow n P some → HereIs (P n) more → AreBelow (n + 1) P (together some more)
holders_more n P some more = in_each_case some more
  where
    Handles : ℕ → ℕ → Type 0
    Handles s x = (y : ℕ) × P s x y

    Shown : ℕ → ℕ → Type 0
    Shown s y = (x : ℕ) × P s x y

    in_each_case : (some more : Option Holders) → AreBelow n P some → HereIs (P n) more → AreBelow (n + 1) P (together some more)
    in_each_case None None none here = λ s l x y p.
        ⊎_elim (λ q. none q.0 q.1 x q.2.0 q.2.1) (λ q. here x q.0 q.1) (below_or_here n Handles x (s, l, (y, p)))
    in_each_case None (Some y) none here = (
      lowest_first n Handles (y.shown, here.0) (λ x q. (here.1 x q.0 q.1).0) (λ x q. none q.0 q.1 x q.2.0 q.2.1),
      lowest_first n Shown (y.lowest.0, here.0) (λ y q. (here.1 q.0 y q.1).1) (λ y q. none q.0 q.1 q.2.0 y q.2.1),
    )
    in_each_case (Some x) None low here = (
      lowest_kept n Handles low.0 (λ x q. here x q.0 q.1),
      lowest_kept n Shown low.1 (λ y q. here q.0 y q.1),
    )
    in_each_case (Some x) (Some y) low here = (
      lowest_more n Handles (y.shown, here.0) (λ x q. (here.1 x q.0 q.1).0) low.0,
      lowest_more n Shown (y.lowest.0, here.0) (λ y q. (here.1 q.0 y q.1).1) low.1,
    )
