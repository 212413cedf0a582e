-- What the loops of `table_read::zero` keep.
use Rattle.facts.proofs.Words.{◌+◌}
use Rattle.table_read.proofs.{Gathered}
use Rattle.table_read.proofs.zero.Given as goal

abbrev pub invariant-loop-b : goal.invariant-loop-b
invariant-loop-b l = Gathered l.t l.from (l.from + l.b-index) l.all
