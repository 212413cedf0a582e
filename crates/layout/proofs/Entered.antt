-- A record written byte by byte. Assumes nothing.
use Rattle.facts.proofs.Words.{◌≡◌, refl, ap, sym, ◌∙◌, subst, ◌⊎◌, inl, inr, ⊎_elim, by_cases, List, [], ◌∷◌, ◌++◌, ℕ, ◌+◌, ◌/◌, ◌%◌, ◌≤◌, ◌<◌}
use Rattle.facts.proofs.Words.{eq-or-lt_of_le, dec_lt, arith, length, get_or, set, replicate, length-set, length-append, length-replicate}
use Rattle.facts.proofs.Words.{get_or-append, get_or-eq_default, get_or-append_seam}
use Rattle.facts.specs.{byte, with_word, with_long}
use Rattle.layout.specs.{Zero, two, four}
use Rattle.layout.proofs.Parts.{below_at, zeros_after}
use Rattle.layout.proofs.Written.{byte_same, byte_other}

-- from the place on stand the bytes xs, and all others are as before
pub record Wrote (b : List ℕ) (at : ℕ) (xs b' : List ℕ) : Type 0 where
  pub size : length b' ≡ length b
  pub bytes : (j : ℕ) → j < length xs → byte b' (at + j) ≡ get_or xs j 0
  pub other : (q : ℕ) → (q < at) ⊎ (at + length xs ≤ q) → byte b' q ≡ byte b q

pub wrote_none : (b : List ℕ) (at : ℕ) → Wrote b at [] b
wrote_none b at = record { size = refl; bytes = λ j l. absurd (omega (arith, l)); other = λ q o. refl }

-- one byte more
pub wrote_byte : {b : List ℕ} {at : ℕ} {xs b' : List ℕ} → Wrote b at xs b' → (p x : ℕ) → p ≡ at + length xs → p < length b
    → Wrote b at (xs ++ x ∷ []) (set b' p x)
wrote_byte {b} {at} {xs} {b'} w p x next l =
    record {
      size = length-set b' p x ∙ w.size;
      bytes = λ j m. ⊎_elim (last j) (before j) (eq-or-lt_of_le (omega (arith, m, longer)));
      other = λ q. ⊎_elim (λ m. byte_other b' p x q (λ e. omega (arith, e, next)) ∙ w.other q (inl m))
          (λ m. byte_other b' p x q (λ e. omega (arith, e, m, next, longer)) ∙ w.other q (inr (omega (arith, m, longer))));
    }
  where
    longer : length (xs ++ x ∷ []) ≡ length xs + 1
    longer = length-append xs (x ∷ [])

    last : (j : ℕ) → j ≡ length xs → byte (set b' p x) (at + j) ≡ get_or (xs ++ x ∷ []) j 0
    last j e =
        ap (byte (set b' p x)) (ap (λ (n : ℕ). at + n) e ∙ sym next) ∙ byte_same b' p x (omega (arith, w.size))
        ∙ sym (ap (λ (n : ℕ). get_or (xs ++ x ∷ []) n 0) e ∙ get_or-append_seam xs x [] 0)

    before : (j : ℕ) → j < length xs → byte (set b' p x) (at + j) ≡ get_or (xs ++ x ∷ []) j 0
    before j m = byte_other b' p x (at + j) (λ e. omega (arith, e, next)) ∙ w.bytes j m ∙ sym (get_or-append xs (x ∷ []) 0 j m)

-- a number of two bytes more
pub wrote_word : {b : List ℕ} {at : ℕ} {xs b' : List ℕ} → Wrote b at xs b' → (p n : ℕ) → p ≡ at + length xs → p + 1 < length b → n < 65536
    → Wrote b at ((xs ++ n % 256 ∷ []) ++ n / 256 ∷ []) (with_word b' p n)
wrote_word {b} {at} {xs} {b'} w p n next l low =
    subst (λ (high : ℕ). Wrote b at ((xs ++ n % 256 ∷ []) ++ n / 256 ∷ []) (set (set b' p (n % 256)) (p + 1) high)) (omega arith)
    (wrote_byte (wrote_byte w p (n % 256) next (omega arith)) (p + 1) (n / 256) (omega (arith, next, length-append xs (n % 256 ∷ []))) l)

-- zero bytes more, which stood there
pub wrote_zeros : {b : List ℕ} {at : ℕ} {xs b' : List ℕ} → Wrote b at xs b' → (n : ℕ) → Zero b (at + length xs) (at + length xs + n)
    → Wrote b at (xs ++ replicate n 0) b'
wrote_zeros {b} {at} {xs} {b'} w n stood =
    record {
      size = w.size;
      bytes = λ j m. there j (omega (arith, m, longer)) ∙ sym (zeros_after xs n j);
      other = λ q. ⊎_elim (λ m. w.other q (inl m)) (λ m. w.other q (inr (omega (arith, m, longer))));
    }
  where
    longer : length (xs ++ replicate n 0) ≡ length xs + n
    longer = length-append xs (replicate n 0) ∙ ap (λ (k : ℕ). length xs + k) (length-replicate {A = ℕ} n 0)

    there : (j : ℕ) → j < length xs + n → byte b' (at + j) ≡ get_or xs j 0
    there j l =
        by_cases (dec_lt j (length xs)) (w.bytes j)
        (λ h. w.other (at + j) (inr (omega arith)) ∙ stood (at + j) (omega arith) (omega arith) ∙ sym (get_or-eq_default xs 0 (omega arith)))

-- the bytes of a number of four bytes, the lowest first
pub long_bytes : (b : List ℕ) (at n : ℕ) → at + 3 < length b → n < 4294967296 → (j : ℕ) → j < 4 → byte (with_long b at n) (at + j) ≡ get_or (four n) j 0
long_bytes b at n l h j m =
    let lower = wrote_word (wrote_none b at) at (n % 65536) (omega arith) (omega arith) (omega arith) in
    (wrote_word lower (at + 2) (n / 65536 % 65536) refl (omega arith) (omega arith)).bytes j m
    ∙ below_at 4 (λ j. get_or (two (n % 65536) ++ two (n / 65536 % 65536)) j 0 ≡ get_or (four n) j 0)
    (omega arith) j m
