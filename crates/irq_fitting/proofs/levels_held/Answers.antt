-- `irq_fitting::levels_held` meets its contract: each seat in turn.
-- Assumes nothing.
use Rattle.facts.proofs.Words.{arith}
use Rattle.table_read.proofs.{exactly_more}
use Rattle.irq_fitting.proofs.levels_held.Goals as goal

pub loop-s-preserved : goal.loop-s-preserved
loop-s-preserved c =
    let passed = c.loop-s.invariant in
    let here = rw c.new.ensures at c.levels_at-here.ensures in
    (omega arith, exactly_more _ _ _ passed.1 here.way, exactly_more _ _ _ passed.2 here.together)
