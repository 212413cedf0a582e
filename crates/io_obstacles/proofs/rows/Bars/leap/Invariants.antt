-- What the loops of `io_obstacles::rows::Bars::leap` keep.
use Rattle.io_obstacles.specs.{LiesInFirst, Leaps}
use Rattle.io_obstacles.proofs.rows.Bars.leap.Given as goal

abbrev pub invariant-loop-i : goal.invariant-loop-i
invariant-loop-i g l = Leaps (LiesInFirst l.self l.limit l.i) l.base l.far
