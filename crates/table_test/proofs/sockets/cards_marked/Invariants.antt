-- What the loops of `table_test::sockets::cards_marked` keep.
use Rattle.table_read.proofs.{Flawless}
use Rattle.table_test.proofs.{Marked}
use Rattle.table_test.proofs.sockets.cards_marked.Given as goal

abbrev pub invariant-loop-mark : goal.invariant-loop-mark
invariant-loop-mark l = Flawless (Marked l.t) l.mark-index l.flaws
