-- `table_read::zero` meets its contract. The loop's invariant: `all` is zero exactly if the bytes passed are. Assumes nothing.
use Rattle.facts.proofs.Words.{◌+◌, arith}
use Rattle.std.proofs.lemmas.List.{places}
use Rattle.table_read.proofs.{gathered_more}
use Rattle.table_read.proofs.zero.Goals as goal

pub loop-b-preserved : goal.loop-b-preserved
loop-b-preserved c =
    gathered_more _ _ (c.args.from + c.loop-b.b-index) _ _ _ (omega arith) (omega arith) (search (arith, places)) c.loop-b.invariant
