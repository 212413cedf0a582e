-- What is wrong with each number below a bound, or-ed together: how a loop with no early exit decides what holds of all of them. Assumes nothing.
use Rattle.facts.proofs.Words.{◌≡◌, ℕ, ◌+◌, arith, bit_or, eqb, Says}
use Rattle.facts.proofs.{says_true, says_as}
use Rattle.table_read.proofs.Below.{All, all_none, all_more}
use Rattle.table_read.proofs.Zeros.{or_says}

-- what is wrong is 0 exactly if each number below n is P
pub record Flawless (P : ℕ → Type 0) (n flaws : ℕ) : Type 0 where
  pub says : Says (eqb flaws 0) (All n P)

pub flawless_none : (P : ℕ → Type 0) → Flawless P 0 0
flawless_none P = record { says = says_true (all_none P) }

pub flawless_more : {P : ℕ → Type 0} {n flaws : ℕ} (flaw : ℕ) → Flawless P n flaws → Says (eqb flaw 0) (P n) → Flawless P (n + 1) (bit_or flaws flaw)
flawless_more {P} {n} {flaws} flaw f s =
    record {
      says = says_as (or_says flaws flaw f.says s) (λ a. all_more {P = P} a.0 a.1) (λ a. (λ k l. a k (omega arith), a n (omega arith)));
    }

pub flawless_says : {P : ℕ → Type 0} {n flaws : ℕ} (m : ℕ) → n ≡ m → Flawless P n flaws → Says (eqb flaws 0) (All m P)
flawless_says m e f = rw e at f.says
