-- What an answer decides: one that is written out, a comparison, an answer said of something else, and one that a test turned round. Assumes nothing.
use Rattle.std.specs.Prelude.{◌&&◌}
use Rattle.facts.proofs.Words.{◌≡◌, refl, sym, Bool, true, false, not, true≢false, false≢true, ℕ, ◌<◌, arith, ltb-true, ltb-false, eqb-true}
use Rattle.facts.proofs.Words.{eqb-false, eq-eqb, ne_eqb, not-true, not-false, ltb, eqb, Says}

pub says_true : {P : Type 0} → P → Says true P
says_true p = record { holds = λ e. p; fails = λ e. absurd (true≢false e) }

pub says_false : {P : Type 0} → (P → ⊥) → Says false P
says_false n = record { holds = λ e. absurd (false≢true e); fails = λ e. n }

pub says_lt : (a b : ℕ) → Says (ltb a b) (a < b)
says_lt a b = record { holds = ltb-true a b; fails = λ e l. omega (arith, ltb-false a b e) }

pub says_eq : (a b : ℕ) → Says (eqb a b) (a ≡ b)
says_eq a b = record { holds = eqb-true a b; fails = eqb-false a b }

-- an answer that says whether two numbers are equal is their comparison
pub says_eqb : (r : Bool) (n m : ℕ) → Says r (n ≡ m) → r ≡ eqb n m
says_eqb true n m s = sym (eq-eqb n m (s.holds refl))
says_eqb false n m s = sym (ne_eqb n m (s.fails refl))

module _ {r : Bool} {P : Type 0} where
  pub says_as : {Q : Type 0} → Says r Q → (Q → P) → (P → Q) → Says r P
  says_as s f g = record { holds = λ e. f (s.holds e); fails = λ e p. s.fails e (g p) }

  pub says_yes : Says r P → r ≡ true → P
  says_yes s e = s.holds e

  pub says_no : Says r P → r ≡ false → P → ⊥
  says_no s e = s.fails e

  pub says_not : Says r P → Says (not r) (P → ⊥)
  says_not s = record { holds = λ e. s.fails (not-true r e); fails = λ e n. n (s.holds (not-false r e)) }

  pub says_false_by : {Q : Type 0} → Says r P → r ≡ false → (Q → P) → Says false Q
  says_false_by s e f = says_false (λ q. says_no s e (f q))

-- both of two
pub says_both : {p q : Bool} {P Q : Type 0} → Says p P → Says q Q → Says (p && q) (P × Q)
says_both {p = true} s t = says_as t (λ y. (s.holds refl, y)) (λ x. x.1)
says_both {p = false} s t = says_false (λ x. s.fails refl x.0)

-- what an answer decides is so or not
pub says_dec : (r : Bool) {P : Type 0} → Says r P → Dec P
says_dec true s = yes (s.holds refl)
says_dec false s = no (s.fails refl)
