-- `managed_ranges::free` meets its contract: the range before the place, the one after it, or neither has one of the ports.
-- Assumes nothing.
use Rattle.facts.proofs.Words.{arith}
use Rattle.managed_ranges.proofs.{untaken}
use Rattle.managed_ranges.proofs.free.Goals as goal

pub returns : goal.returns
returns c =
    untaken c.requires.ranges.2 c.place-i.ensures (omega (arith, c.if-base-end_before.false, c.end_before.ensures))
    c.start.ensures (omega (arith, c.if-start-base.false))
