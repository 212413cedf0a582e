-- Laws of records that stand one after the other, and of what holds at each place below a bound. Assumes nothing.
use Rattle.facts.proofs.Words.{◌≡◌, sym, ◌∙◌, subst, subst⁻¹, ◌⊎◌, inl, inr, ⊎_elim, by_cases, ◌≢◌, List, ◌++◌, ℕ, zero, suc, ◌+◌, ◌*◌, ◌-◌, ◌≤◌, ◌<◌}
use Rattle.facts.proofs.Words.{suc-mul, mul-le-mul_right, not-suc-le-zero, le_of_suc-le-suc, eq-or-lt_of_le, zero-mul, dec_lt, arith, length, get_or}
use Rattle.facts.proofs.Words.{replicate, refl, length-append, get_or-append, get_or-append-add, ap, get_or-eq_default}
use Rattle.layout.specs.{each}

-- what holds at each place below n, and at n, holds at each below one more
pub below_or_last : (P : ℕ → Type 0) {n : ℕ} → ((i : ℕ) → i < n → P i) → P n → (i : ℕ) → i < suc n → P i
below_or_last P before last i l = ⊎_elim (λ e. subst⁻¹ P e last) (before i) (eq-or-lt_of_le (le_of_suc-le-suc l))

-- what holds at each place below n, one by one
abbrev pub Below : ℕ → (ℕ → Type 0) → Type 0
Below zero P = Unit {0}
Below (suc n) P = Below n P × P n

pub below_at : (n : ℕ) (P : ℕ → Type 0) → Below n P → (j : ℕ) → j < n → P j
below_at zero P a j l = absurd (not-suc-le-zero l)
below_at (suc n) P a j l = below_or_last P (below_at n P a.0) a.1 j l

pub below_all : (n : ℕ) (P : ℕ → Type 0) → ((j : ℕ) → j < n → P j) → Below n P
below_all zero P a = tt
below_all (suc n) P a = (below_all n P (λ j l. a j (omega arith)), a n (omega arith))

-- the bytes of a record that is not used are zero
pub zeros : (n j : ℕ) → ◌≡◌ {A = ℕ} (get_or (replicate n 0) j 0) 0
zeros zero j = refl
zeros (suc n) zero = refl
zeros (suc n) (suc j) = zeros n j

-- zeros after a list say nothing more
pub zeros_after : (c : List ℕ) (k q : ℕ) → get_or (c ++ replicate k 0) q 0 ≡ get_or c q 0
zeros_after c k q =
    by_cases (dec_lt q (length c)) (get_or-append c (replicate k 0) 0 q)
    (λ h. let past : q ≡ length c + (q - length c) = omega arith in
    ap (λ (p : ℕ). get_or (c ++ replicate k 0) p 0) past ∙ get_or-append-add c (replicate k 0) (q - length c) 0 ∙ zeros k (q - length c)
    ∙ sym (get_or-eq_default c 0 (omega arith)))

-- past the first n
pub skip : (A B : List ℕ) (n x : ℕ) → length A ≡ n → get_or (A ++ B) (n + x) 0 ≡ get_or B x 0
skip A B n x e = subst (λ (m : ℕ). get_or (A ++ B) (m + x) 0 ≡ get_or B x 0) e (get_or-append-add A B x 0)

-- the place of byte j of record i lies before record n
pub record_below : {i n j k : ℕ} → i < n → j < k → i * k + j < n * k
record_below {i} {n} {j} {k} h l = omega (arith, mul-le-mul_right k h, suc-mul i k)

-- and outside of each other record
pub record_apart : {i s j k : ℕ} → i ≢ s → j < k → (i * k + j < s * k) ⊎ (s * k + k ≤ i * k + j)
record_apart {i} {s} {j} {k} d l =
    by_cases (dec_lt i s) (λ h. inl (record_below h l))
    (λ h. let m : s < i = omega (arith, d) in inr (omega (arith, mul-le-mul_right k m, suc-mul s k)))

-- each place among n records is a byte of one of them
pub located : (at k n q : ℕ) → at ≤ q → q < at + n * k → (i : ℕ) × (i < n) × (j : ℕ) × (j < k) × (at + i * k + j ≡ q)
located at k zero q l m = absurd (omega (arith, zero-mul k))
located at k (suc n) q l m =
    by_cases (dec_lt q (at + n * k)) (λ h. let r = located at k n q l h in (r.0, omega (arith, r.1), r.2, r.3, r.4))
    (λ h. (n, omega arith, q - (at + n * k), omega (arith, suc-mul n k), omega arith))

module _ (k : ℕ) (f : ℕ → List ℕ) (sized : (i : ℕ) → length (f i) ≡ k) where
  pub each_length : (n : ℕ) → length (each n f) ≡ n * k
  unfolding each
  each_length zero = sym (zero-mul k)
  each_length (suc n) = length-append (each n f) (f n) ∙ omega (arith, each_length n, sized n, suc-mul n k)

  -- byte j of record i
  pub each_at : (n i j : ℕ) → i < n → j < k → get_or (each n f) (i * k + j) 0 ≡ get_or (f i) j 0
  unfolding each
  each_at zero i j h l = absurd (not-suc-le-zero h)
  each_at (suc n) i j h l =
      below_or_last (λ i. get_or (each n f ++ f n) (i * k + j) 0 ≡ get_or (f i) j 0)
      (λ i b. get_or-append (each n f) (f n) 0 (i * k + j) (subst⁻¹ (λ (m : ℕ). i * k + j < m) (each_length n) (record_below b l))
      ∙ each_at n i j b l) (skip (each n f) (f n) (n * k) j (each_length n)) i h
