-- `table_read::four_zero` meets its contract. The loop's invariant: of each stretch, what is or-ed together is zero exactly if the bytes passed are.
-- Assumes nothing.
use Rattle.facts.proofs.Words.{arith}
use Rattle.table_read.proofs.{quarters_more, quarters_says}
use Rattle.table_read.proofs.four_zero.Goals as goal

pub loop-i-preserved : goal.loop-i-preserved
loop-i-preserved c = quarters_more _ _ _ _ _ _ _ _ _ _ c.loop-i.invariant

pub returns : goal.returns
returns c = quarters_says _ _ _ _ _ _ _ _ _ _ c.loop-i.invariant _ (omega arith)
