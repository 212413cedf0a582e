-- What the loops of `io_candidates::reach` keep.
use Rattle.facts.proofs.Words.{◌-◌}
use Rattle.layout.specs.{ranges_in}
use Rattle.io_candidates.proofs.{Run}
use Rattle.io_candidates.proofs.reach.Given as goal

abbrev pub invariant-loop-end : goal.invariant-loop-end
invariant-loop-end l = Run l.t l.i l.most l.j l.end

abbrev pub decreases-loop-end : goal.decreases-loop-end
decreases-loop-end l = ranges_in l.t - l.j
