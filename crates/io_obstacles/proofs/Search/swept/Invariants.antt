-- What the loops of `io_obstacles::Search::swept` keep.
use Rattle.facts.proofs.Words.{◌-◌}
use Rattle.io_obstacles.specs.{Barred}
use Rattle.io_obstacles.proofs.{Gone}
use Rattle.io_obstacles.proofs.Search.swept.Given as goal

abbrev pub invariant-loop-base : goal.invariant-loop-base
invariant-loop-base l = Gone (Barred l.self) l.self.wanted.step 0 l.base

abbrev pub decreases-loop-base : goal.decreases-loop-base
decreases-loop-base l = l.long - l.base
