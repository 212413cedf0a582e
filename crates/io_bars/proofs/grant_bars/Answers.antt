-- `io_bars::grant_bars` meets its contract: the seats passed have their bars, and the other places none.
-- Assumes nothing.
use Rattle.facts.proofs.Words.{arith}
use Rattle.layout.proofs.{size_in}
use Rattle.io_bars.proofs.{seat_fits, grants_are}
use Rattle.io_bars.proofs.grant_bars.Goals as goal

pub held-requires : goal.held-requires
held-requires c = size_in c.args.t.now c.requires.0

pub bar_of-requires : goal.bar_of-requires
bar_of-requires c =
    let pre = c.requires in (
      rw c.ports_of-ports.ensures (seat_fits c.args.t.now c.new.result.number c.new.result.in_table pre.0 c.held.result c.held.ensures),
      pre.1,
      pre.2,
      pre.3,
    )

pub returns : goal.returns
returns c = grants_are c.args.t.now _ _ c.loop-s.bars (λ s l. c.loop-s.invariant s (omega (arith, c.loop-s-test.false)))
