-- What the loops of `io_obstacles::Wanted::run_end` keep.
use Rattle.facts.proofs.Words.{◌+◌, ◌-◌}
use Rattle.io_obstacles.specs.{LiesInBars}
use Rattle.io_obstacles.proofs.{Gone}
use Rattle.io_obstacles.proofs.Wanted.run_end.Given as goal

abbrev pub invariant-loop-base : goal.invariant-loop-base
invariant-loop-base l = Gone (LiesInBars l.grants l.limit) l.self.step l.from l.base

abbrev pub decreases-loop-base : goal.decreases-loop-base
decreases-loop-base l = l.end + 1 - l.base
