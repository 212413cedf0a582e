-- What the loops of `table_read::four_zero` keep.
use Rattle.table_read.proofs.Quarters.{Quarters}
use Rattle.table_read.proofs.four_zero.Given as goal

abbrev pub invariant-loop-i : goal.invariant-loop-i
invariant-loop-i l = Quarters l.t l.first l.second l.third l.fourth l.i l.all l.all2 l.all3 l.all4
