-- `table_masks::row_flaws` meets its contract: what is over is 0 exactly if no word passed is over its limit.
-- Assumes nothing.
use Rattle.facts.proofs.Words.{arith}
use Rattle.facts.proofs.{says_as, says_eq}
use Rattle.table_read.proofs.{flawless_more}
use Rattle.table_masks.proofs.row_flaws.Goals as goal

pub loop-k-preserved : goal.loop-k-preserved
loop-k-preserved c = (
  omega arith,
  flawless_more _ c.loop-k.invariant.1
      (says_as (says_eq _ 0) (λ e. omega (arith, e, c.word_u16-word.ensures))
      (λ l. omega (arith, l, c.word_u16-word.ensures))),
)
