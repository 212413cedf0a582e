-- `table_test::sockets::cards_marked` meets its contract. The loop's invariant: what is wrong is 0 exactly if the marks passed are at most 1.
-- Assumes nothing.
use Rattle.facts.proofs.Words.{◌<◌, arith}
use Rattle.std.proofs.lemmas.List.{places}
use Rattle.table_read.proofs.{flawless_more}
use Rattle.table_test.proofs.{mark_says}
use Rattle.table_test.proofs.sockets.cards_marked.Goals as goal

pub loop-mark-preserved : goal.loop-mark-preserved
loop-mark-preserved c =
    let l : c.loop-mark.mark-index < 8 = omega arith in
    flawless_more _ c.loop-mark.invariant (mark_says c.args.t.now c.loop-mark.mark-index (search (arith, places)))
