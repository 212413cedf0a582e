-- The records that the bytes of a boot list are, and the code at their end. Assumes nothing.
use Rattle.facts.proofs.Words.{◌≡◌, Bool, true, false, refl, ap, sym, ◌∙◌, ℕ_discrete, ◌≢◌, List, [], ◌∷◌, cond, ℕ, zero, suc, ◌*◌, ◌/◌, ◌%◌}
use Rattle.facts.proofs.Words.{◌≤◌, ◌<◌, not-suc-le-zero, arith, eqb, length, take, drop, length-drop, eq-eqb, ne_eqb}
use Rattle.facts.specs.{Facts, Check, add_range_checks, add_level_checks, range_added, level_added, io_range, most_lines, Code, Success, BadArgLength}
use Rattle.facts.specs.{Record, number_of, record_size, record_of, records_in, records_of, end_of}
use Rattle.facts.proofs.Told.{told}

-- a record is a range or a level: its checks, and what is added where they pass
module _ (P : List Check → Facts → Type 0) (F : Facts) (r : Record) where
  abbrev AddsAs : Bool → Type 0
  AddsAs io =
      P (cond io (add_range_checks F r.base r.count r.attributes most_lines) (add_level_checks F r.base r.attributes))
      (cond io (range_added F r.base r.count r.attributes) (level_added F r.base r.attributes))

  pub by_resource : AddsAs true → AddsAs false → AddsAs (eqb r.resource io_range)
  by_resource range level = either_way (eqb r.resource io_range)
    where
      either_way : (io : Bool) → AddsAs io
      either_way true = range
      either_way false = level

pub records_length : (n : ℕ) (b : List ℕ) → length (records_in n b) ≡ n
records_length zero b = refl
records_length (suc n) b = ap suc (records_length n _)

-- the first n of the first m records
pub records_first : (n m : ℕ) (b : List ℕ) → n ≤ m → take n (records_in m b) ≡ records_in n b
records_first zero m b h = refl
records_first (suc n) zero b h = absurd (not-suc-le-zero h)
records_first (suc n) (suc m) b h = ap {B = List Record} (λ rs. record_of b ∷ rs) (records_first n m _ (omega arith))

-- the code at the end, by the bytes that are too few for a record
abbrev code_after : Bool → Code
code_after none = cond none Success BadArgLength

module _ (b : List ℕ) where
  -- the bytes have room for n records
  records_are : (n : ℕ) → length b / record_size ≡ n → records_of b ≡ records_in n b
  records_are n = ap (λ (k : ℕ). records_in k b)

  pub records_few : length b < record_size → records_of b ≡ []
  records_few few = records_are 0 (omega arith)

  pub records_more : record_size ≤ length b → records_of b ≡ record_of b ∷ records_of (drop record_size b)
  records_more full = records_are (suc (length (drop record_size b) / record_size)) (omega (arith, length-drop record_size b))

  pub records_counted : length (records_of b) ≡ length b / record_size
  records_counted = records_length (length b / record_size) b

  pub records_same : (n : ℕ) → length b ≡ n * record_size → records_of b ≡ records_in n b
  records_same n e = records_are n (omega (arith, e))

  pub records_before : (n : ℕ) → n * record_size ≤ length b → take n (records_of b) ≡ records_in n b
  records_before n h = records_first n (length b / record_size) b (omega arith)

  pub end_broken : length b % record_size ≢ 0 → end_of b ≡ BadArgLength
  end_broken d = ap code_after (ne_eqb (length b % record_size) 0 d)

  pub end_whole : length b % record_size ≡ 0 → end_of b ≡ Success
  end_whole e = ap code_after (eq-eqb (length b % record_size) 0 e)

  pub end_more : record_size ≤ length b → end_of b ≡ end_of (drop record_size b)
  end_more full =
      let same : length b % record_size ≡ length (drop record_size b) % record_size = omega (arith, length-drop record_size b) in
      ap (λ (n : ℕ). code_after (eqb n 0)) same

  pub whole_end : end_of b ≡ Success → length b % record_size ≡ 0
  whole_end e = told (ℕ_discrete (length b % record_size) 0) (λ d. omega (arith, ap number_of (sym (end_broken d) ∙ e)))
