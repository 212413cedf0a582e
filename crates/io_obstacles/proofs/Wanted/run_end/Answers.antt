-- `io_obstacles::Wanted::run_end` meets its contract: the search has come to the multiple `base`, and every one before it lies in a bar with a short period.
-- Assumes nothing.
use Rattle.facts.proofs.Words.{◌+◌, arith}
use Rattle.io_obstacles.proofs.{power_most, leap_barred, gone_on}
use Rattle.io_obstacles.proofs.Wanted.run_end.Goals as goal

pub loop-base-preserved : goal.loop-base-preserved
loop-base-preserved c =
    gone_on _ _ _ c.loop-base.base c.loop-base.invariant (c.loop-base.base + c.leap-far.result) c.up-base.result (omega arith)
    (leap_barred _ _ _ c.leap-far.ensures) c.up-base.ensures
    (omega (arith, c.up-base.ensures.near, c.loop-base-test.true, c.requires.2, c.leap-far.ensures.most, power_most _ c.args.self.now.step_power))
