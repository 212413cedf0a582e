-- The parts of soundness that one function each decides: levels and ranges, and what lies past the last seats. Assumes nothing.
use Rattle.std.specs.Prelude.{List, ℕ, ◌+◌, ◌≤◌, ◌<◌}
use Rattle.facts.specs.Table
use Rattle.facts.specs.Packets.{byte}
use Rattle.layout.specs.Layout
use Rattle.layout.specs.Reading.{range_place, io_place_lem, irq_place_lem}
use Rattle.layout.specs.Sound.{Zero, LevelSound, range_base, range_count}

-- the records of all levels
abbrev pub LevelsSound : List ℕ → Type 0
LevelsSound b = (l : ℕ) → l < Table.all_levels → LevelSound b l

-- the ith range starts at or past low and has a port
pub record RangeFollows (b : List ℕ) (low i : ℕ) : Type 0 where
  pub from : low ≤ range_base b i
  pub port : 1 ≤ range_count b i

-- its reserve mark is 0 or 1
abbrev pub RangeMarked : List ℕ → ℕ → Type 0
RangeMarked b i = byte b (range_place i + Layout.range_reserved_at) ≤ 1

-- the seats that no socket has hold no grant, and what follows them is zero up to the masks
pub record SeatsEnd (b : List ℕ) : Type 0 where
  pub ios : Zero b (io_place_lem Table.most_seats) Layout.irqs_at
  pub irqs : Zero b (irq_place_lem Table.most_seats) Layout.masks_at
