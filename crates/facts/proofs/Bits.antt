-- Bits of a number: of two to a power, shifted, and past its last; and the levels that a packet of RequestIRQ names. Assumes nothing.
use Rattle.facts.proofs.Words.{◌≡◌, refl, by_cases, sym, ap, ◌∙◌, List, ℕ, suc, ◌+◌, ◌-◌, ◌*◌, ◌/◌, ◌%◌, ◌^◌, ◌≤◌, ◌<◌, one-mul, mul_assoc}
use Rattle.facts.proofs.Words.{div-eq_of_lt, dec_lt, arith, ne_eqb, shifted_even, pow-add, pow_mono, shl-shr, shr-shr}
use Rattle.facts.specs.{bit, Mask, info1, level_asked_lem, irq_asked, levels_named_lem, Named}
use Rattle.facts.proofs.Told.{told}

-- two to k has the bit k
pub one_bit : (k : ℕ) → bit (2 ^ k) k ≡ 1
one_bit k = ap (λ (n : ℕ). bit n k) (sym (one-mul (2 ^ k))) ∙ ap (λ (n : ℕ). n % 2) (shl-shr 1 k)

-- a set shifted by j has each of its numbers raised by j, and no other
pub shifted_bit : (set j m : ℕ) → bit (set * 2 ^ j) (j + m) ≡ bit set m
shifted_bit set j m = ap (λ (n : ℕ). n % 2) (sym (shr-shr (set * 2 ^ j) j m) ∙ ap (λ (n : ℕ). n / 2 ^ m) (shl-shr set j))

pub shifted_only : (set j k : ℕ) → bit (set * 2 ^ j) k ≡ 1 → (m : ℕ) × (j + m ≡ k) × (bit set m ≡ 1)
shifted_only set j k e =
    by_cases (dec_lt k j) (λ l. absurd (omega (arith, low (omega arith))))
    (λ l. let here : j + (k - j) ≡ k = omega arith in (k - j, here, sym (shifted_bit set j (k - j)) ∙ ap (bit (set * 2 ^ j)) here ∙ e))
  where
    more : ℕ
    more = j - k - 1

    twice : j ≡ suc more + k → set * 2 ^ j ≡ set * 2 ^ suc more * 2 ^ k
    twice h = ap (λ (n : ℕ). set * n) (ap (λ (n : ℕ). 2 ^ n) h ∙ pow-add 2 (suc more) k) ∙ sym (mul_assoc set (2 ^ suc more) (2 ^ k))

    low : j ≡ suc more + k → bit (set * 2 ^ j) k ≡ 0
    low h =
        ap (λ (n : ℕ). bit n k) (twice h) ∙ ap (λ (n : ℕ). n % 2) (shl-shr (set * 2 ^ suc more) k) ∙ shifted_even set more

-- a set has no number past its last
pub bit_below : (set n k : ℕ) → set < 2 ^ n → bit set k ≡ 1 → k < n
bit_below set n k l e =
    told (dec_lt k n)
    (λ h. let past : 2 ^ n ≤ 2 ^ k = pow_mono {i = n} {j = k} (omega arith) in
    let none : bit set k ≡ 0 = ap (λ (m : ℕ). m % 2) (div-eq_of_lt (omega arith)) in
    omega arith)

-- the set of one number has no other
pub one_only : (j k : ℕ) → bit (2 ^ j) k ≡ 1 → j ≡ k
one_only j k e =
    let m = shifted_only 1 j k (ap (λ (n : ℕ). bit n k) (one-mul (2 ^ j)) ∙ e) in
    omega (arith, m.1, bit_below 1 1 m.0 (omega arith) m.2)

-- with Mask set, a packet names the levels of IRQInfo2; with Mask clear, the one of the low four bits alone
module _ (p : List ℕ) where
  clears : (Mask p → ⊥) → levels_named_lem p ≡ 2 ^ level_asked_lem p
  clears c = rw (ne_eqb (bit (info1 p) 4) 1 c) refl

  pub one_named : (Mask p → ⊥) → Named (irq_asked p) (level_asked_lem p)
  one_named c = ap (λ (n : ℕ). bit n (level_asked_lem p)) (clears c) ∙ one_bit (level_asked_lem p)

  pub named_one : (l : ℕ) → (Mask p → ⊥) → Named (irq_asked p) l → l ≡ level_asked_lem p
  named_one l c e = sym (one_only (level_asked_lem p) l (ap (λ (n : ℕ). bit n l) (sym (clears c)) ∙ e))
