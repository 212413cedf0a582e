-- The bits of a number: the lowest, the others by halving, and that 0 has none. Assumes nothing.
use Rattle.facts.proofs.Words.{◌≡◌, ap, sym, ◌∙◌, ℕ, suc, ◌/◌, ◌%◌, ◌^◌, div-one, zero-div, div-div-eq-div-mul, pow-succ'}
use Rattle.facts.specs.{bit}

pub lowest_bit : (n : ℕ) → bit n 0 ≡ n % 2
lowest_bit n = ap (λ (x : ℕ). x % 2) (div-one n)

pub higher_bit : (n k : ℕ) → bit n (suc k) ≡ bit (n / 2) k
higher_bit n k = ap (λ (x : ℕ). x % 2) (ap (λ (x : ℕ). n / x) (pow-succ' 2 k) ∙ sym (div-div-eq-div-mul n 2 (2 ^ k)))

pub no_bit : (k : ℕ) → bit 0 k ≡ 0
no_bit k = ap (λ (n : ℕ). n % 2) (zero-div (2 ^ k))
