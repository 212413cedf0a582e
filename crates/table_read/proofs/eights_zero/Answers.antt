-- `table_read::eights_zero` meets its contract. The loop's invariant: `all` is zero exactly if the bytes passed are.
-- Assumes nothing.
use Rattle.facts.proofs.Words.{arith}
use Rattle.table_read.proofs.{gathered_joined, gathered_eight}
use Rattle.table_read.proofs.eights_zero.Goals as goal

pub loop-i-preserved : goal.loop-i-preserved
loop-i-preserved c = (
  omega arith,
  rw c.eight-all.ensures
      (gathered_joined _ _ _ _ _ _ (omega arith) (omega arith) c.loop-i.invariant.1 (gathered_eight _ _ _ (omega arith))),
)
