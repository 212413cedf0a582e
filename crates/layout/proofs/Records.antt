-- Listed facts and their records, one after the other: those not used, one taken out, and one put in. Assumes nothing.
use Rattle.facts.proofs.Words.{◌≡◌, ap, sym, ◌∙◌, by_cases, List, Option, none, some, ℕ, zero, suc, ◌+◌, ◌*◌, ◌≤◌, ◌<◌, suc-mul, mul-le-mul_right}
use Rattle.facts.proofs.Words.{dec_lt, ℕ_discrete, arith, length, get_or, get_elem?}
use Rattle.facts.specs.{byte}
use Rattle.layout.specs.{up_to, Zero}
use Rattle.layout.proofs.Parts.{record_below, located}
use Rattle.layout.proofs.Lists.{More, at_past, at-up_to, up_to-length}
use Rattle.layout.proofs.Image.{part, Stands}

-- each of at most n facts has a record of k bytes, from first on; where there is none the record is zero
module _ {A : Type 0} (bytes : Option A → List ℕ) (first k n : ℕ) (zero-none : (j : ℕ) → get_or (bytes none) j 0 ≡ 0) where
  abbrev place : ℕ → ℕ
  place i = first + i * k

  abbrev pub Records : List A → List ℕ → Type 0
  Records xs b = Stands b first (part n k (λ i. bytes (get_elem? xs i)))

  -- the next record begins where this one ends
  next : (i : ℕ) → place (suc i) ≡ place i + k
  next i = omega (arith, suc-mul i k)

  places : (m i : ℕ) → m ≤ i → place m ≤ place i
  places m i l = omega (arith, mul-le-mul_right k l)

  ahead : {i j m : ℕ} → i < m → j < k → place i + j < place m
  ahead {i} {j} {m} l h = omega (arith, record_below l h)

  byte_of : {o o' : Option A} → o ≡ o' → (j : ℕ) → get_or (bytes o) j 0 ≡ get_or (bytes o') j 0
  byte_of e j = ap (λ (x : Option A). get_or (bytes x) j 0) e

  past_zero : (xs : List A) (i j : ℕ) → length xs ≤ i → get_or (bytes (get_elem? xs i)) j 0 ≡ 0
  past_zero xs i j l = byte_of (at_past xs i l) j ∙ zero-none j

  -- the records past the facts are zero
  pub unused : (xs : List A) (b : List ℕ) → Records xs b → Zero b (place (length xs)) (place n)
  unused xs b is q l m =
      let r = located first k n q (omega arith) m in
      let past : length xs ≤ r.0 =
      by_cases (dec_lt r.0 (length xs)) (λ h. absurd (omega (arith, ahead h r.3, r.4))) (λ h. omega arith) in
      ap (byte b) (sym r.4) ∙ is r.0 r.1 r.2 r.3 ∙ past_zero xs r.0 r.2 past

  -- where the first m records are those of what f gives, and zero bytes follow, all are
  pub listed_stand : (m : ℕ) (f : ℕ → A) (b : List ℕ)
      → ((i : ℕ) → i < m → (j : ℕ) → j < k → byte b (place i + j) ≡ get_or (bytes (some (f i))) j 0)
      → Zero b (place m) (place n)
      → Records (up_to m f) b
  listed_stand m f b is past i l j h =
      by_cases (dec_lt i m) (λ x. is i x j h ∙ sym (byte_of (at-up_to m f i x) j))
      (λ x. past (place i + j) (omega (arith, places m i (omega arith))) (ahead l h)
      ∙ sym (past_zero (up_to m f) i j (omega (arith, up_to-length m f))))

  module _ (xs ys : List A) (b b' : List ℕ) (m : ℕ) (x : A) (is : Records xs b)
      (before : (p : ℕ) → first ≤ p → p < place m → byte b' p ≡ byte b p) where
    -- the mth taken out of the first z, among which are all facts
    pub records_fewer : More ys xs m x → (z : ℕ) → length xs ≤ z → z ≤ n → ((p : ℕ) → place m ≤ p → p + k < place z → byte b' p ≡ byte b (p + k))
        → ((p : ℕ) → place z ≤ p + k → p < place z → byte b' p ≡ 0)
        → ((p : ℕ) → place z ≤ p → byte b' p ≡ byte b p)
        → Records ys b'
    records_fewer more z all most moved last past i l j h = in_turn (dec_lt i m) (dec_lt (suc i) z) (dec_lt i z)
      where
        in_turn : Dec (i < m) → Dec (suc i < z) → Dec (i < z) → byte b' (place i + j) ≡ get_or (bytes (get_elem? ys i)) j 0
        in_turn (yes y) d e = before (place i + j) (omega arith) (ahead y h) ∙ is i l j h ∙ byte_of (more.ahead i y) j
        in_turn (no y) (yes d) e =
            moved (place i + j) (omega (arith, places m i (omega arith))) (omega (arith, ahead d h, next i)) ∙ ap (byte b) (omega (arith, next i))
            ∙ is (suc i) (omega (arith, d)) j h ∙ byte_of (more.behind i (omega arith)) j
        in_turn (no y) (no d) (yes e) =
            last (place i + j) (omega (arith, next i, places z (suc i) (omega arith))) (ahead e h)
            ∙ sym (past_zero ys i j (omega (arith, more.longer)))
        in_turn (no y) (no d) (no e) =
            past (place i + j) (omega (arith, places z i (omega arith))) ∙ is i l j h ∙ past_zero xs i j (omega arith)
            ∙ sym (past_zero ys i j (omega (arith, more.longer)))

    -- x put in as the mth
    pub records_more : More xs ys m x → ((j : ℕ) → j < k → byte b' (place m + j) ≡ get_or (bytes (some x)) j 0)
        → ((p : ℕ) → place m ≤ p → p + k < place n → byte b' (p + k) ≡ byte b p)
        → Records ys b'
    records_more more new moved i l j h = same_or_not i l (dec_lt i m) (ℕ_discrete i m)
      where
        same_or_not : (i : ℕ) → i < n → Dec (i < m) → Dec (i ≡ m) → byte b' (place i + j) ≡ get_or (bytes (get_elem? ys i)) j 0
        same_or_not i l (yes y) d =
            before (place i + j) (omega arith) (ahead y h) ∙ is i l j h ∙ sym (byte_of (more.ahead i y) j)
        same_or_not i l (no y) (yes e) =
            ap (λ (i : ℕ). byte b' (place i + j)) e ∙ new j h ∙ sym (byte_of (ap (get_elem? ys) e ∙ more.here) j)
        same_or_not zero l (no y) (no d) = absurd (omega (arith, d))
        same_or_not (suc i) l (no y) (no d) =
            ap (byte b') (omega (arith, next i))
            ∙ moved (place i + j) (omega (arith, places m i (omega (arith, d)))) (omega (arith, ahead l h, next i))
            ∙ is i (omega arith) j h ∙ sym (byte_of (more.behind i (omega (arith, d))) j)
