-- What is tested of an I/O grant: its ports, the managed range that has them, and the lines that its card decodes. Assumes nothing.
use Rattle.std.specs.Prelude.{◌≡◌, List, ℕ, ◌+◌, ◌^◌, ◌≤◌, ◌<◌}
use Rattle.facts.specs.Table
use Rattle.facts.specs.Table.{Seat, socket_at}
use Rattle.facts.specs.declared.Ports.{Ports}
use Rattle.facts.specs.Packets.{byte}
use Rattle.layout.specs.Layout
use Rattle.layout.specs.Reading.{sockets_in, ranges_in, io_place_lem, io_in}
use Rattle.layout.specs.Sound.{range_base, range_count, IoUsed}
use Rattle.io_answering.specs.declared.gaps.Gaps.{Gaps}
use Rattle.io_answering.specs.Gaps.{AllManagedIn}
use Rattle.io_answering.specs.Rows.{GapsAre}

-- the ports lie within the managed range in the place i
pub record InRange (b : List ℕ) (i base count : ℕ) : Type 0 where
  pub listed : i < ranges_in b
  pub from : range_base b i ≤ base
  pub to : base + count ≤ range_base b i + range_count b i

-- the range in the place i, if there is one, has the ports, where their card decodes all lines
abbrev pub RangeHas : List ℕ → ℕ → Ports → Type 0
RangeHas b i a = a.lines ≡ Table.most_lines → i < ranges_in b → InRange b i a.base a.count

-- so it has those of the I/O grant at the seat s
abbrev pub RangeServes : List ℕ → ℕ → Seat → Type 0
RangeServes b i s = IoUsed b s → RangeHas b i (io_in b s).ports

-- "granted .. ports are managed; an I/O grant has base 1 or more, lines 1 to 16 and a count RequestIO allows"; K2: wherever its card answers is managed
pub record PortsSound (b : List ℕ) (a : Ports) : Type 0 where
  pub base : 1 ≤ a.base
  pub port : 1 ≤ a.count
  pub line : 1 ≤ a.lines
  pub lines : a.lines ≤ Table.most_lines
  pub decoded : a.count ≤ 2 ^ a.lines
  pub managed : AllManagedIn b a

-- the card of the seat's I/O grant decodes so many lines
abbrev pub LinesAt : List ℕ → Seat → ℕ → Type 0
LinesAt b s r = IoUsed b s → r ≡ byte b (io_place_lem s + Layout.io_lines_at)

-- no I/O grant's card decodes fewer lines
abbrev pub FewestLines : List ℕ → ℕ → Type 0
FewestLines b r = (s : Seat) → socket_at s < sockets_in b → IoUsed b s → r ≤ byte b (io_place_lem s + Layout.io_lines_at)

-- the gaps serve the card of every I/O grant
abbrev pub GapsServe : List ℕ → Gaps → Type 0
GapsServe b gaps = (s : Seat) → socket_at s < sockets_in b → IoUsed b s → GapsAre b (byte b (io_place_lem s + Layout.io_lines_at)) gaps
