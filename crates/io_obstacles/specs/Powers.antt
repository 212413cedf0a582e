-- Powers of two and their multiples; periods, and the bases that a leap goes over. Assumes nothing.
use Rattle.std.specs.Prelude.{◌≡◌, ℕ, ◌+◌, ◌-◌, ◌*◌, ◌%◌, ◌^◌, ◌<◌, ◌≤◌}
use Rattle.facts.specs.Table

-- twice all ports: a multiple of every period
abbrev pub around : ℕ
around = Table.all_ports + Table.all_ports

-- n is two to so many lines
pub record Power (n : ℕ) : Type 0 where
  pub lines : ℕ
  pub most : lines ≤ Table.most_lines
  pub is : n ≡ 2 ^ lines

-- x is a multiple of the step
pub record Multiple (step x : ℕ) : Type 0 where
  pub times : ℕ
  pub is : x ≡ times * step

-- the first multiple of the step at or past a number
pub record FirstMultiple (from step r : ℕ) : Type 0 where
  pub multiple : Multiple step r
  pub past : from ≤ r
  pub near : r < from + step
  pub first : (y : ℕ) → Multiple step y → from ≤ y → r ≤ y

-- a period: a power of two, as long as the limit's and the step
pub record Period (limit step period : ℕ) : Type 0 where
  pub power : Power period
  pub short : Power (limit + 1)
  pub step_power : Power step
  pub decides : short.lines ≤ power.lines
  pub steps : step_power.lines ≤ power.lines

-- the base x lies past the start by less than the width, modulo the period, which is one more than its ones
abbrev pub LiesFrom : ℕ → ℕ → ℕ → ℕ → Type 0
LiesFrom start ones width x = (x + around - start) % (ones + 1) < width

-- from x on, every base before x + r is barred; r is 0 only if x isn't
pub record Leaps (Bar : ℕ → Type 0) (x r : ℕ) : Type 0 where
  pub none : r ≡ 0 → Bar x → ⊥
  pub each : (e : ℕ) → e < r → Bar (x + e)
  pub most : r ≤ around
