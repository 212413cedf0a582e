-- The smallest power of two not below a number. Assumes nothing.
use Rattle.facts.proofs.Words.{◌≡◌, ℕ, ◌+◌, ◌/◌, ◌^◌, ◌≤◌, ◌<◌, max, dec_le, dec_lt, arith, pow-lt, pow_pos, pow_mono, pow-add}
use Rattle.facts.specs.{SmallestPower, all_ports, most_lines}
use Rattle.io_obstacles.specs.{Power}

-- a power that is not below n is the smallest where its half is
pub smallest_power : (n k r : ℕ) → r ≡ 2 ^ k → n ≤ r → r / 2 < max 1 n → SmallestPower n r
smallest_power n k r e h half = record { power = k; is = e; not_below = h; smallest = λ j l. below_or_not j l (dec_lt j k) }
  where
    below_or_not : (j : ℕ) → n ≤ 2 ^ j → Dec (j < k) → r ≤ 2 ^ j
    below_or_not j l (yes m) =
        let more : j + 1 ≤ k = omega arith in
        absurd (omega (arith, e, half, l, pow_pos j, pow_mono more, pow-add 2 j 1))
    below_or_not j l (no m) =
        let more : k ≤ j = omega arith in
        omega (arith, e, pow_mono more)

-- for so many ports as there are, it is two to so many lines
pub smallest_power_lines : (n a : ℕ) → SmallestPower n a → n ≤ all_ports → Power a
smallest_power_lines n a s h = record { lines = s.power; most = within_or_not (dec_le s.power most_lines); is = s.is }
  where
    within_or_not : Dec (s.power ≤ most_lines) → s.power ≤ most_lines
    within_or_not (yes l) = l
    within_or_not (no l) =
        let more : most_lines < s.power = omega arith in
        absurd (omega (arith, s.is, s.smallest most_lines h, pow-lt more))
