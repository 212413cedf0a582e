-- `table_lists::levels::level_flaw` meets its contract: half of a mark is 0 exactly if the mark is 0 or 1.
-- Assumes nothing.
use Rattle.facts.proofs.Words.{◌-◌, ◌/◌, ◌%◌, arith}
use Rattle.facts.proofs.{says_as, says_eq}
use Rattle.table_read.proofs.{or_says}
use Rattle.table_lists.proofs.levels.level_flaw.Goals as goal

pub returns : goal.returns
returns c =
    let m = c.args.marks in
    rw c.saturating_sub.ensures
    (says_as (or_says (m % 256 / 2) (m / 256 - m % 256) (says_eq (m % 256 / 2) 0) (says_eq (m / 256 - m % 256) 0))
    (λ p. (omega (arith, p.0), omega (arith, p.1))) (λ p. (omega (arith, p.0), omega (arith, p.1))))
