-- The gaps between the managed ranges in rows. Assumes nothing.
use Rattle.std.specs.Prelude.{◌≡◌, List, cond, ℕ, ◌+◌, ◌-◌, ◌%◌, ◌^◌, ◌<◌, eqb, min, slice_index}
use Rattle.facts.specs.Table
use Rattle.facts.specs.declared.Ports.{Ports}
use Rattle.facts.specs.Ports.{Meet}
use Rattle.io_answering.specs.declared.gaps.Gaps.{Gaps}
use Rattle.io_answering.specs.Gaps.{most_gaps, most_counted, MeetsGap}

-- the gap in the place i
abbrev pub gap_at : Gaps → ℕ → Ports
gap_at gaps i = record { base = slice_index gaps.starts i; count = slice_index gaps.ports i; lines = Table.most_lines }

-- a gap from the start on, modulo all ports, of so many ports, as far as they count
abbrev pub counted : ℕ → ℕ → Ports
counted start ports = record { base = start % Table.all_ports; count = min ports most_counted; lines = Table.most_lines }

-- the ports meet one of the gaps
abbrev pub MeetsRows : Gaps → Ports → Type 0
MeetsRows gaps a = (i : ℕ) × (i < most_gaps) × Meet a (gap_at gaps i)

-- a card that doesn't decode all lines answers in one of the gaps exactly if it does in one of the table
pub record RowsAre (b : List ℕ) (gaps : Gaps) : Type 0 where
  pub has : (a : Ports) → a.lines < Table.most_lines → MeetsGap b a → MeetsRows gaps a
  pub only : (a : Ports) → a.lines < Table.most_lines → MeetsRows gaps a → MeetsGap b a

-- the gaps serve cards of so many lines; for one that decodes all they may be any
abbrev pub GapsAre : List ℕ → ℕ → Gaps → Type 0
GapsAre b lines gaps = lines < Table.most_lines → RowsAre b gaps

-- so many lines' last number
pub record LowBits (ones : ℕ) : Type 0 where
  pub lines : ℕ
  pub fewer : lines < Table.most_lines
  pub is : ones + 1 ≡ 2 ^ lines

-- how far a gap and so many more ports reach, and how far the last port has to move to leave them behind; 0 where it need not
abbrev pub reach_of_lem : ℕ → ℕ → ℕ
reach_of_lem ports more = cond (eqb ports 0) 0 (ports + more)

abbrev pub ahead_of : ℕ → ℕ → ℕ → ℕ → ℕ → ℕ
ahead_of base ports last more period = reach_of_lem ports more - (last + period - base % period) % period

-- so many ports from x on, decoded by so many lines
abbrev pub ports_from : ℕ → ℕ → ℕ → Ports
ports_from count lines x = record { base = x; count = count; lines = lines }
