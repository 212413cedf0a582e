-- What the loops of `io_obstacles::Search::lowest` keep.
use Rattle.facts.proofs.Words.{◌+◌, ◌-◌}
use Rattle.io_obstacles.specs.{Barring, Barred}
use Rattle.io_obstacles.proofs.{Gone}
use Rattle.io_obstacles.proofs.Search.lowest.Given as goal

abbrev pub invariant-loop-base : goal.invariant-loop-base
invariant-loop-base l = Gone (Barred l.self) l.self.wanted.step l.from l.base × Barring (Barred l.self) l.self.wanted.step l.known

abbrev pub decreases-loop-base : goal.decreases-loop-base
decreases-loop-base l = l.end + 1 - l.base
