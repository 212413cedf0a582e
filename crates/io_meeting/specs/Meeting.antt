-- Whether ports meet those that are held at a seat. Assumes nothing.
use Rattle.facts.specs.Table.{Facts, Seat, HeldPorts, Held}
use Rattle.facts.specs.declared.Ports.{Ports}
use Rattle.facts.specs.Ports.{Meet}

-- the ports meet some that are held at the seat s
pub record MeetsAt (F : Facts) (a : Ports) (s : Seat) : Type 0 where
  pub range : HeldPorts
  pub held : Held F s range
  pub meets : Meet a range.ports
