-- Sets with a bit for each number: of none, of one, shifted, and what two of them have, together or both. Assumes nothing.
use Rattle.facts.proofs.Words.{◌≡◌, sym, ap, ◌∙◌, subst, ◌⊎◌, inl, inr, ⊎_elim, ℕ, ◌+◌, ◌*◌, ◌/◌, ◌%◌, ◌^◌, ◌<◌, min, max, one-mul, by_cases}
use Rattle.facts.proofs.Words.{eq-or-lt_of_le, ℕ_discrete, arith, bit_and, bit_or, and_shr, and_step, or_shr, or_step, shl_exact}
use Rattle.facts.specs.{bit}
use Rattle.facts.proofs.{one_bit, one_only}
use Rattle.table_read.specs.{HasJust, SomeBelow}
use Rattle.table_read.proofs.Bits.{no_bit}

-- the set of one number, which a one that is shifted is
pub one_shifted : (k w : ℕ) → k < w → (1 * 2 ^ k) % 2 ^ w ≡ 2 ^ k
one_shifted k w l = shl_exact 1 k w (omega arith) (omega arith) ∙ one-mul (2 ^ k)

-- a number is in one of two sets, or in both
module _ (x y k : ℕ) where
  bit_or_lem : bit (bit_or x y) k ≡ max (bit x k) (bit y k)
  bit_or_lem = ap (λ (n : ℕ). n % 2) (or_shr x y k) ∙ omega (arith, or_step (x / 2 ^ k) (y / 2 ^ k))

  pub or_left : bit x k ≡ 1 → bit (bit_or x y) k ≡ 1
  or_left e = omega (arith, bit_or_lem)

  pub or_right : bit y k ≡ 1 → bit (bit_or x y) k ≡ 1
  or_right e = omega (arith, bit_or_lem)

  pub or_either : bit (bit_or x y) k ≡ 1 → (bit x k ≡ 1) ⊎ (bit y k ≡ 1)
  or_either e = by_cases (ℕ_discrete (bit x k) 1) inl (λ f. inr (omega (arith, bit_or_lem, f)))

-- the set of no number
pub exactly_none : {P : ℕ → Type 0} → ((k : ℕ) → P k → ⊥) → HasJust 0 P
exactly_none n = record { has = λ k p. absurd (n k p); only = λ k e. absurd (omega (arith, no_bit k)) }

pub exactly_empty : {P : ℕ → Type 0} {set : ℕ} → HasJust set P → set ≡ 0 → (k : ℕ) → P k → ⊥
exactly_empty is e k p = omega (arith, is.has k p, ap (λ (n : ℕ). bit n k) e ∙ no_bit k)

pub exactly_one : {P : ℕ → Type 0} (j : ℕ) → P j → ((k : ℕ) → P k → j ≡ k) → HasJust (2 ^ j) P
exactly_one {P} j p one =
    record { has = λ k q. ap (bit (2 ^ j)) (sym (one k q)) ∙ one_bit j; only = λ k e. subst P (one_only j k e) p }

-- the numbers that two sets both have
pub bit_and_lem : (x y k : ℕ) → bit (bit_and x y) k ≡ min (bit x k) (bit y k)
bit_and_lem x y k = ap (λ (n : ℕ). n % 2) (and_shr x y k) ∙ omega (arith, and_step (x / 2 ^ k) (y / 2 ^ k))

pub exactly_both : {P Q : ℕ → Type 0} (x y : ℕ) → HasJust x P → HasJust y Q → HasJust (bit_and x y) (λ k. P k × Q k)
exactly_both x y p q =
    record {
      has = λ k b. omega (arith, bit_and_lem x y k, p.has k b.0, q.has k b.1);
      only = λ k e. (p.only k (omega (arith, bit_and_lem x y k)), q.only k (omega (arith, bit_and_lem x y k)));
    }

-- a set of what P says, where that is what Q says
pub exactly_as : {P Q : ℕ → Type 0} {set : ℕ} → HasJust set P → ((k : ℕ) → P k → Q k) → ((k : ℕ) → Q k → P k) → HasJust set Q
exactly_as e to from = record { has = λ k q. e.has k (from k q); only = λ k o. to k (e.only k o) }

-- the numbers said of those passed, and of one more
module _ {P : ℕ → ℕ → Type 0} where
  pub exactly_more : (n x y : ℕ) → HasJust x (SomeBelow n P) → HasJust y (P n) → HasJust (bit_or x y) (SomeBelow (n + 1) P)
  exactly_more n x y passed next = record { has = λ k p. has k p.0 p.2 (eq-or-lt_of_le (omega (arith, p.1))); only = only }
    where
      has : (k s : ℕ) → P s k → (s ≡ n) ⊎ (s < n) → bit (bit_or x y) k ≡ 1
      has k s p (inl e) = or_right x y k (next.has k (subst (λ (t : ℕ). P t k) e p))
      has k s p (inr l) = or_left x y k (passed.has k (s, l, p))

      only : (k : ℕ) → bit (bit_or x y) k ≡ 1 → SomeBelow (n + 1) P k
      only k e =
          ⊎_elim (λ p. let u = passed.only k p in (u.0, omega (arith, u.1), u.2)) (λ p. (n, omega arith, next.only k p)) (or_either x y k e)
