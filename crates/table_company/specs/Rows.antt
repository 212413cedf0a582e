-- What the I/O grants hold, in rows of 16-bit numbers, and what one reaches of another. Assumes nothing.
use Rattle.std.specs.Prelude.{◌≡◌, ℕ, ◌+◌, ◌-◌, ◌%◌, ◌^◌, ◌<◌, ◌≤◌, cond, List, ◌==◌, bit_and, slice_index}
use Rattle.facts.specs.Table
use Rattle.facts.specs.Table.{Seat}
use Rattle.layout.specs.Reading.{io_in}
use Rattle.layout.specs.Sound.{IoUsed}
use Rattle.table_company.specs.declared.Numbers.{Numbers}
use Rattle.table_company.specs.declared.Rows.{Rows}

-- the numbers of a seat in the rows
abbrev pub numbers_at : Rows → Seat → Numbers
numbers_at rows s =
    record { base = slice_index rows.bases s; ones = slice_index rows.ones s; count = slice_index rows.counts s; unshared = slice_index rows.unshared s }

-- the numbers say what the I/O grant at the seat s holds; where there is none, no ports
pub record NumbersAre (b : List ℕ) (s : Seat) (x : Numbers) : Type 0 where
  pub low : x.base < Table.all_ports
  pub free : (IoUsed b s → ⊥) → (x.count ≡ 0) × (x.unshared ≡ 0)
  pub base : IoUsed b s → x.base ≡ (io_in b s).ports.base
  pub ones : IoUsed b s → x.ones + 1 ≡ 2 ^ (io_in b s).ports.lines
  pub count : IoUsed b s → x.count ≡ (io_in b s).ports.count
  pub unshared : IoUsed b s → x.unshared ≡ cond (io_in b s).shared 0 (io_in b s).ports.count

-- the rows say so of each seat below n
abbrev pub RowsAre : List ℕ → Rows → ℕ → Type 0
RowsAre b rows n = (s : Seat) → s < n → NumbersAre b s (numbers_at rows s)

-- how many of the count ports at a base are reached by ports of which the last is given, and how many there are before it
abbrev pub over_of : ℕ → ℕ → ℕ → ℕ → ℕ → ℕ → ℕ
over_of base ones count last own more = count - (bit_and (bit_and ((last + Table.all_ports - base) % Table.all_ports) own) ones - more)

-- what the one grant reaches of the other: of all its ports, or, if the one is shared, of those that aren't
abbrev pub reached : Numbers → Numbers → ℕ
reached x y = over_of y.base y.ones (cond (x.unshared == 0) y.unshared y.count) ((x.base + (x.count - 1)) % Table.all_ports) x.ones (x.count - 1)

-- the grant at the seat s, if there is one, reaches nothing of those below it
abbrev pub RowsApart : Rows → Seat → Type 0
RowsApart rows s = 1 ≤ (numbers_at rows s).count → (u : Seat) → u < s → reached (numbers_at rows s) (numbers_at rows u) ≡ 0
