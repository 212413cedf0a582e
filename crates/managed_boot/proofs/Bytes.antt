-- Records read off the list's bytes. Assumes nothing.
use Rattle.facts.proofs.Words.{◌≡◌, refl, ap, sym, ◌∙◌, List, [], ◌∷◌, ◌++◌, ℕ, zero, suc, ◌+◌, ◌*◌, ◌≤◌, ◌<◌, add-one}
use Rattle.facts.proofs.Words.{suc-mul, add_comm, arith, length, take, drop, set, length-drop, drop-drop, take-suc-set}
use Rattle.facts.specs.{Record, record_size, record_of, records_in, records_of, end_of}
use Rattle.facts.proofs.{bytes_laws}

-- past the first record and n more
past_first : (n : ℕ) (b : List ℕ) → drop (n * record_size) (drop record_size b) ≡ drop (suc n * record_size) b
past_first n b =
    drop-drop (n * record_size) record_size b ∙ ap (λ (k : ℕ). drop k b) (add_comm record_size (n * record_size) ∙ sym (suc-mul n record_size))

-- the first n records of the bytes, and one more
records_last : (n : ℕ) (b : List ℕ) → records_in (suc n) b ≡ records_in n b ++ (record_of (drop (n * record_size) b) ∷ [])
records_last zero b = refl
records_last (suc n) b =
    ap {B = List Record} (λ rs. record_of b ∷ rs)
    (records_last n (drop record_size b) ∙ ap (λ (l : List ℕ). records_in n (drop record_size b) ++ (record_of l ∷ [])) (past_first n b))

-- one more is taken out of the bytes, into its place of the array
pub taken_more : (b : List ℕ) (at i : ℕ) (all : List Record) (r : Record) → i < length all → r ≡ record_of (drop (at + i * record_size) b)
    → take i all ≡ records_in i (drop at b) → take (i + 1) (set all i r) ≡ records_in (i + 1) (drop at b)
taken_more b at i all r l e f =
    rw add-one (take-suc-set all i r l ∙ rw (f, e, ← drop-drop (i * record_size) at b) (sym (records_last i (drop at b))))

-- the records of a list's bytes are the next n, and those of the bytes past them
pub records_past : (n : ℕ) (b : List ℕ) → n * record_size ≤ length b → records_of b ≡ records_in n b ++ records_of (drop (n * record_size) b)
records_past zero b h = refl
records_past (suc n) b h =
    (bytes_laws.more b (omega (arith, suc-mul n record_size, h))).0
    ∙ ap {B = List Record} (λ rs. record_of b ∷ rs)
    (records_past n (drop record_size b) (omega (arith, length-drop record_size b, suc-mul n record_size, h))
    ∙ ap (λ (l : List ℕ). records_in n (drop record_size b) ++ records_of l) (past_first n b))

-- and the code at their end is that at the end of those bytes
pub end_past : (n : ℕ) (b : List ℕ) → n * record_size ≤ length b → end_of b ≡ end_of (drop (n * record_size) b)
end_past zero b h = refl
end_past (suc n) b h =
    (bytes_laws.more b (omega (arith, suc-mul n record_size, h))).1
    ∙ end_past n (drop record_size b) (omega (arith, length-drop record_size b, suc-mul n record_size, h))
    ∙ ap end_of (past_first n b)
