-- Which bases the live grants and the gaps of a table bar. Assumes nothing.
use Rattle.std.specs.Prelude.{Option, Some, None, List, ℕ, ◌+◌, ◌-◌, ◌^◌, ◌≤◌, ◌<◌}
use Rattle.facts.specs.Table
use Rattle.facts.specs.Table.{Facts}
use Rattle.facts.specs.declared.Ports.{Ports}
use Rattle.facts.specs.Ports.{Meet, MeetsHeld}
use Rattle.layout.specs.Sound.{Accepted}
use Rattle.seats.specs.declared.HeldPorts.{HeldPorts}
use Rattle.io_answering.specs.Gaps.{MeetsGap}
use Rattle.io_answering.specs.Rows.{ports_from}
use Rattle.io_obstacles.specs.{Bar, Bars, Power, LiesInBar, LiesInBars, grant_places, gap_places}

-- a gap counts no more ports
abbrev pub most_ports : ℕ
most_ports = 2 ^ 15

-- a bar has just the bases at which so many ports, decoded by so many lines, meet those of g; its period is no longer than the lines tell apart
pub record BarIs (g : Ports) (count lines : ℕ) (bar : Bar) : Type 0 where
  pub power : Power (bar.ones + 1)
  pub short : bar.ones ≤ 2 ^ lines - 1
  pub has : (x : ℕ) → Meet (ports_from count lines x) g → LiesInBar bar x
  pub only : (x : ℕ) → LiesInBar bar x → Meet (ports_from count lines x) g

-- the ports that are held at a seat, or none
abbrev pub seat_ports : Option HeldPorts → Ports
seat_ports (Some x) = x.ports
seat_ports None = record { base = 0; count = 0; lines = 0 }

-- numbers that a grant can have
pub record PortsFit (g : Ports) : Type 0 where
  pub base : g.base ≤ Table.all_ports
  pub ports : g.count ≤ most_ports
  pub lines : g.lines ≤ Table.most_lines

-- the bars have just the bases at which ports meet a live grant
pub record GrantBars (F : Facts) (count lines : ℕ) (bars : Bars grant_places) : Type 0 where
  pub has : (x : ℕ) → MeetsHeld F (ports_from count lines x) → LiesInBars bars (2 ^ lines - 1) x
  pub only : (x : ℕ) → LiesInBars bars (2 ^ lines - 1) x → MeetsHeld F (ports_from count lines x)

abbrev pub GrantBarsOf : List ℕ → ℕ → ℕ → Bars grant_places → Type 0
GrantBarsOf b count lines bars = (a : Accepted b) → GrantBars a.facts count lines bars

-- the bars have just the bases at which a card that doesn't decode all lines answers in a gap
pub record GapBars (b : List ℕ) (count lines : ℕ) (bars : Bars gap_places) : Type 0 where
  pub has : lines < Table.most_lines → (x : ℕ) → MeetsGap b (ports_from count lines x) → LiesInBars bars (2 ^ lines - 1) x
  pub only : lines < Table.most_lines → (x : ℕ) → LiesInBars bars (2 ^ lines - 1) x → MeetsGap b (ports_from count lines x)
