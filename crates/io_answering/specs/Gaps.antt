-- The gaps between the managed ranges, and whether all places where a card answers are managed, said of the bytes. Assumes nothing.
use Rattle.std.specs.Prelude.{List, ℕ, ◌-◌, ◌^◌, ◌≤◌}
use Rattle.facts.specs.Table
use Rattle.facts.specs.declared.Ports.{Ports}
use Rattle.facts.specs.Ports.{Within, Meet, Answers}
use Rattle.layout.specs.Reading.{ranges_in, below}
use Rattle.layout.specs.Sound.{ManagedIn, range_base, end_before_lem}

-- room for all gaps: one before each range
abbrev pub most_gaps : ℕ
most_gaps = Table.most_ranges

-- a gap counts up to so many ports: in one that has more, every card answers that doesn't decode all lines
abbrev pub most_counted : ℕ
most_counted = 2 ^ 15

-- where the range in the place i starts; past the last one, one past FFFF
abbrev pub start_at : List ℕ → ℕ → ℕ
start_at b = below (ranges_in b) Table.all_ports (range_base b)

-- the gap before the place i: from the end of the range listed before it up to the start of the one there. All its lines count.
abbrev pub gap_in : List ℕ → ℕ → Ports
gap_in b i = record { base = end_before_lem b i; count = start_at b i - end_before_lem b i; lines = Table.most_lines }

-- the ports meet a gap
abbrev pub MeetsGap : List ℕ → Ports → Type 0
MeetsGap b a = (i : ℕ) × (i ≤ ranges_in b) × Meet a (gap_in b i)

-- the ports are managed, and so is wherever a card with them answers
pub record AllManagedIn (b : List ℕ) (a : Ports) : Type 0 where
  pub own : (p : ℕ) → Within p a.base a.count → ManagedIn b p
  pub answers : (p : ℕ) → Answers a p → ManagedIn b p
