-- `io_candidates::past_bars` meets its contract: where the grants bar every base nothing is taken, and else what comes first past all bars.
-- Assumes nothing.
use Rattle.std.specs.Prelude.{None}
use Rattle.io_candidates.proofs.{barred_taken, found_taken}
use Rattle.io_candidates.proofs.past_bars.Goals as goal

pub returns-then-everywhere : goal.returns-then-everywhere
returns-then-everywhere c =
    barred_taken c.args.t.now _ _ _ c.requires.1 c.passed-known.result c.passed-known.ensures (c.everywhere.ensures c.if-everywhere.true)

pub returns-then-everywhere-2 : goal.returns-then-everywhere-2
returns-then-everywhere-2 c =
    found_taken c.args.t.now _ _ _ c.requires.1 c.gap_bars.new.bars c.gap_bars.ensures None
    (λ y free. free.free.unbarred (c.swept-swept.ensures.barred y free.free.multiple (c.everywhere-2.ensures c.if-everywhere-2.true y)))

pub returns : goal.returns
returns c = found_taken c.args.t.now _ _ _ c.requires.1 c.gap_bars.new.bars c.gap_bars.ensures c.first.result c.first.ensures
