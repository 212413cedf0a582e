-- `io_obstacles::rows::Bars::leap` meets its contract: the farthest end of the bars passed.
-- Assumes nothing.
use Rattle.io_obstacles.proofs.{leap_more}
use Rattle.io_obstacles.proofs.rows.Bars.leap.Goals as goal

pub loop-i-preserved : goal.loop-i-preserved
loop-i-preserved g c =
    rw c.max-far.ensures
    (leap_more _ _ _ c.loop-i.i c.loop-i.far c.ahead.result c.loop-i.invariant (rw c.at.ensures at c.ahead.ensures))
