-- What the tests of a named base answer, and which base is taken. Assumes nothing.
use Rattle.std.specs.Prelude.{◌≡◌, ◌⊎◌, List, true, ℕ, ◌≤◌, ◌<◌, Result, Ok, Err}
use Rattle.facts.specs.declared.Code.{Code}
use Rattle.facts.specs.declared.Code.TheVariants.{BadBase, InUse}
use Rattle.facts.specs.declared.IoAsked.{IoAsked}
use Rattle.facts.specs.Table
use Rattle.facts.specs.Table.{Facts, Seat, HeldPorts, Held}
use Rattle.facts.specs.Ports.{Meet}
use Rattle.facts.specs.Io.{ports_at, NotAllManaged, BothShare, InTheWay, BaseTaken, base_checks}
use Rattle.facts.specs.Checks.{FirstGiven, Passed}
use Rattle.layout.specs.Sound.{Accepted}

-- what is asked keeps the bounds of a packet whose attributes and sizes are good
pub record AskedFits (q : IoAsked) : Type 0 where
  pub base : q.base < Table.all_ports
  pub port : 1 ≤ q.count
  pub ports : q.count < 256
  pub lines : q.lines ≤ Table.most_lines

-- the ports at the base that is named are managed, all of them, and wherever their card answers; or not
abbrev pub PortsAre : {T : Type 0} → List ℕ → IoAsked → Result T Code → Type 0
PortsAre b q (Ok x) = (a : Accepted b) → NotAllManaged a.facts q → ⊥
PortsAre b q (Err k) = (k ≡ BadBase) × ((a : Accepted b) → NotAllManaged a.facts q)

-- what is held at the seat s is in the way of the base that is named
pub record StandsAt (F : Facts) (q : IoAsked) (s : Seat) : Type 0 where
  pub range : HeldPorts
  pub held : Held F s range
  pub meets : Meet (ports_at q q.base) range.ports
  pub unshared : (q.first ≡ true) ⊎ (BothShare q range → ⊥)

-- no live grant is, or some is
abbrev pub WayIs : {T : Type 0} → List ℕ → IoAsked → Result T Code → Type 0
WayIs b q (Ok x) = (a : Accepted b) → InTheWay a.facts q → ⊥
WayIs b q (Err k) = (k ≡ InUse) × ((a : Accepted b) → InTheWay a.facts q)

-- the base that is taken, where none of the checks of the base applies; or the code of the first that does
abbrev pub BaseIs : List ℕ → IoAsked → Result ℕ Code → Type 0
BaseIs b q (Ok x) = (x < 65536) × ((a : Accepted b) → Passed (base_checks a.facts q) × BaseTaken a.facts q x)
BaseIs b q (Err k) = (a : Accepted b) → FirstGiven (base_checks a.facts q) k
