-- `io_obstacles::Search::swept` meets its contract: what the search passed from 0 on is barred again after each period.
-- Assumes nothing.
use Rattle.facts.proofs.Words.{◌+◌, ◌<◌, arith}
use Rattle.facts.specs.{all_ports}
use Rattle.io_obstacles.specs.{Barred}
use Rattle.io_obstacles.proofs.{power_most, leap_barred, gone_on, barred_repeat, learnt_barring}
use Rattle.io_obstacles.proofs.Search.swept.Goals as goal

pub loop-base-preserved : goal.loop-base-preserved
loop-base-preserved c =
    let below : c.loop-base.base < all_ports = omega (arith, c.loop-base-test.true, c.if-long-gt-MOST_SWEPT.false) in
    gone_on _ _ _ c.loop-base.base c.loop-base.invariant (c.loop-base.base + c.leap-far.result) c.up-base.result (omega arith)
    (leap_barred _ _ _ c.leap-far.ensures) c.up-base.ensures
    (omega (arith, c.up-base.ensures.near, below, c.leap-far.ensures.most, power_most _ c.args.self.now.wanted.step_power))

pub returns : goal.returns
returns c =
    let s = c.args.self.now in
    let p = c.period-long.ensures in
    learnt_barring {Bar = Barred s} (λ x b. b) (barred_repeat s _ p) p _ c.learnt.result _ _ c.requires c.loop-base.invariant.barred c.learnt.ensures
