-- Four stretches of one size, each or-ed together by itself: what a loop over all four knows. Assumes nothing.
use Rattle.facts.proofs.Words.{◌≡◌, refl, List, ℕ, ◌+◌, ◌*◌, ◌≤◌, by_cases, dec_lt, arith, bit_or, eqb, Says}
use Rattle.facts.specs.{byte}
use Rattle.facts.proofs.{says_as}
use Rattle.layout.specs.{Zero}
use Rattle.table_read.specs.{FourZero}
use Rattle.table_read.proofs.Zeros.{or_says, Gathered, gathered_none, gathered_more}

-- i bytes of each were passed
pub record Quarters (b : List ℕ) (from second third fourth i x y z w : ℕ) : Type 0 where
  pub one : Gathered b from (from + i) x
  pub two : Gathered b second (second + i) y
  pub three : Gathered b third (third + i) z
  pub four : Gathered b fourth (fourth + i) w

module _ (b : List ℕ) (from second third fourth : ℕ) where
  pub quarters_none : Quarters b from second third fourth 0 0 0 0 0
  quarters_none = record { one = none from; two = none second; three = none third; four = none fourth }
    where
      none : (p : ℕ) → Gathered b p (p + 0) 0
      none p = gathered_none b p (p + 0) (omega arith)

  module _ (i x y z w : ℕ) (q : Quarters b from second third fourth i x y z w) where
    pub quarters_more : Quarters b from second third fourth (i + 1) (bit_or x (byte b (from + i))) (bit_or y (byte b (second + i)))
        (bit_or z (byte b (third + i)))
        (bit_or w (byte b (fourth + i)))
    quarters_more = record { one = more from x q.one; two = more second y q.two; three = more third z q.three; four = more fourth w q.four }
      where
        more : (p all : ℕ) → Gathered b p (p + i) all → Gathered b p (p + (i + 1)) (bit_or all (byte b (p + i)))
        more p all = gathered_more b p (p + i) (p + (i + 1)) all _ (omega arith) (omega arith) refl

    pub quarters_says : (size : ℕ) → i ≡ size → Says (eqb (bit_or (bit_or (bit_or x y) z) w) 0) (FourZero b from second third fourth size)
    quarters_says size e =
        let told = or_says (bit_or (bit_or x y) z) w (or_says (bit_or x y) z (or_says x y q.one.says q.two.says) q.three.says) q.four.says in
        says_as (rw e at told) (λ p. record { one = p.0.0.0; two = p.0.0.1; three = p.0.1; four = p.1 })
        (λ p. (((p.one, p.two), p.three), p.four))

-- four quarters, one after the other
pub quarters_join : {b : List ℕ} (from size : ℕ) → FourZero b from (from + size) (from + size + size) (from + size + size + size) size
    → Zero b from (from + 4 * size)
quarters_join from size z q l m =
    by_cases (dec_lt q (from + size)) (z.one q l)
    (λ x. by_cases (dec_lt q (from + size + size)) (z.two q (omega arith))
    (λ y. by_cases (dec_lt q (from + size + size + size)) (z.three q (omega arith)) (λ w. z.four q (omega arith) (omega arith))))

-- and each of four stretches within one that is zero
pub four_within : {b : List ℕ} {from to : ℕ} (one two three four size : ℕ) → (from ≤ one) × (from ≤ two) × (from ≤ three) × (from ≤ four)
    → (one + size ≤ to) × (two + size ≤ to) × (three + size ≤ to) × (four + size ≤ to)
    → Zero b from to
    → FourZero b one two three four size
four_within one two three four size low high z =
    record {
      one = λ q l m. z q (omega arith) (omega arith);
      two = λ q l m. z q (omega arith) (omega arith);
      three = λ q l m. z q (omega arith) (omega arith);
      four = λ q l m. z q (omega arith) (omega arith);
    }
