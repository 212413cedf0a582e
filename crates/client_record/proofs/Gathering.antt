-- Numbers or-ed together are 0 exactly if each is: how a loop with no early exit finds whether some number below a bound is P. Assumes nothing.
use Rattle.facts.proofs.Words.{subst, ◌⊎◌, inl, inr, ⊎_elim, ℕ, ◌+◌, eq-or-lt_of_le, ℕ_discrete, arith, by_cases, bit_or, bool_byte, Bool, true, false, eqb, eq-eqb, not, refl, Says}
use Rattle.facts.proofs.{says_as, says_eq, says_not}
use Rattle.table_read.proofs.{or_says, zero_where}
use Rattle.table_read.proofs.Some.{Some}
use Rattle.client_record.specs.Finding.{Tells}

-- the number of a flag
pub flag_tells : (b : Bool) {P : Type 0} → Says b P → Tells (bool_byte b) P
flag_tells true s = record { none = λ e p. omega (arith, e); some = λ d. s.holds refl }
flag_tells false s = record { none = λ e. s.fails refl; some = λ d. absurd (d refl) }

tells_or : (x y : ℕ) {P Q : Type 0} → Tells x P → Tells y Q → Tells (bit_or x y) (P ⊎ Q)
tells_or x y p q =
    let both = or_says x y (says_eq x 0) (says_eq y 0) in
    record {
      none = λ e. ⊎_elim (p.none (both.holds (eq-eqb _ _ e)).0) (q.none (both.holds (eq-eqb _ _ e)).1);
      some = λ d. by_cases (ℕ_discrete x 0) (λ e. inr (q.some (λ f. d (zero_where _ both (e, f))))) (λ n. inl (p.some n));
    }

module _ {P : ℕ → Type 0} where
  pub some_none : Tells 0 (Some 0 P)
  some_none = record { none = λ e s. omega (arith, s.1); some = λ d. absurd (d refl) }

  pub some_more : {n some : ℕ} (one : ℕ) → Tells some (Some n P) → Tells one (P n) → Tells (bit_or some one) (Some (n + 1) P)
  some_more {n} {some} one s p =
      let either = tells_or some one s p in
      record {
        none = λ e x.
            ⊎_elim (λ f. either.none e (inr (subst P f x.2))) (λ l. either.none e (inl (x.0, l, x.2))) (eq-or-lt_of_le (omega (arith, x.1)));
        some = λ d. ⊎_elim (λ x. (x.0, omega (arith, x.1), x.2)) (λ x. (n, omega arith, x)) (either.some d);
      }

pub tells_says : {n : ℕ} {P : Type 0} → Tells n P → Says (not (eqb n 0)) P
tells_says {n} t = says_as (says_not (says_eq n 0)) (λ d. t.some d) (λ p e. t.none e p)
