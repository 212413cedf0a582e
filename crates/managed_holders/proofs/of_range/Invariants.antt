-- What the loops of `managed_holders::of_range` keep.
use Rattle.facts.proofs.Words.{◌≤◌}
use Rattle.facts.specs.{most_seats}
use Rattle.layout.specs.{facts_in}
use Rattle.managed_holders.specs.{PortsHold, AreBelow}
use Rattle.managed_holders.proofs.of_range.Given as goal

abbrev pub invariant-loop-s : goal.invariant-loop-s
invariant-loop-s l = (l.s ≤ most_seats) × AreBelow l.s (PortsHold (facts_in l.t) l.base l.count) l.holders
