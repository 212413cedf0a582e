-- `table_lists::ranges::ranges_sound` meets its contract: the ranges passed follow one another, and the last lies within the ports.
-- Assumes nothing.
use Rattle.facts.proofs.Words.{arith, rules}
use Rattle.facts.proofs.{says_yes}
use Rattle.table_lists.proofs.{passed_more, passed_says}
use Rattle.table_lists.proofs.ranges.ranges_sound.Goals as goal

pub loop-i-preserved : goal.loop-i-preserved
loop-i-preserved c =
    passed_more _ _ _ _ c.loop-i.invariant _ _ (omega arith) (says_yes c.range_follows.ensures c.if-not-range_follows.false)
    c.mark_flaw-flaws.ensures
    c.range_end-low.ensures

pub returns-then-flaws-eq0 : goal.returns-then-flaws-eq0
returns-then-flaws-eq0 c =
    passed_says _ _ _ _ c.loop-i.invariant (omega arith) (λ at. omega (arith, c.type_inv.t at))
    (omega arith) (search rules)
