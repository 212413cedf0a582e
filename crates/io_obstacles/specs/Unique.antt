-- A number is two to so many lines in one way alone: so the fact that it is can be kept beside a value, as a ghost field. Assumes nothing.
use native.Mathlib.Nat.{ℕ_set}
use mathlib.Core.HLevel.{is_prop→PathP}
use Rattle.std.specs.Prelude.{◌≡◌, List, ℕ, ◌+◌, ◌^◌, ◌≤◌, ◌<◌, slice_index}
use Rattle.std.specs.Coded.{Π_prop, →_prop, le_prop}
use native.Mathlib.Decide.{dec_lt}
use Rattle.std.proofs.Common.{arith}
use Rattle.std.proofs.Math.Pow.{pow-lt}
use Rattle.facts.specs.Table
use Rattle.io_obstacles.specs.Powers.{Power}

-- of two powers, the one that is no greater has no more lines
pub power_lines : (m n : ℕ) (p : Power m) (q : Power n) → m ≤ n → p.lines ≤ q.lines
power_lines m n p q l = more_or_not (dec_lt q.lines p.lines)
  where
    more_or_not : Dec (q.lines < p.lines) → p.lines ≤ q.lines
    more_or_not (yes h) = absurd (omega (arith, p.is, q.is, pow-lt h))
    more_or_not (no h) = omega arith

pub Power-prop : (n : ℕ) → IsProp (Power n)
Power-prop n p q =
    let same : p.lines ≡ q.lines = omega (arith, power_lines n n p q (omega arith), power_lines n n q p (omega arith)) in λ i.
    record {
      lines = same i;
      most = is_prop→PathP (λ j. same j ≤ Table.most_lines) (λ j. le_prop) p.most q.most i;
      is = is_prop→PathP (λ j. n ≡ 2 ^ same j) (λ j. ℕ_set n (2 ^ same j)) p.is q.is i;
    }

-- and so is each number of a row
pub Powers-prop : (ones : List ℕ) (n : ℕ) → IsProp ((i : ℕ) → i < n → Power (slice_index ones i + 1))
Powers-prop ones n = Π_prop (λ i. →_prop (Power-prop (slice_index ones i + 1)))
