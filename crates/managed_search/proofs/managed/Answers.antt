-- `managed_search::managed` meets its contract: every port from the base up to `p` is managed, and `p` is in none of the ranges passed.
-- Assumes nothing.
use Rattle.facts.proofs.Words.{arith}
use Rattle.facts.proofs.{says_true}
use Rattle.managed_search.proofs.{passed_move, passed_found, passed_stop, passed_says}
use Rattle.managed_search.proofs.managed.Goals as goal

pub returns-then-p-word : goal.returns-then-p-word
returns-then-p-word c =
    passed_says _ _ _ _ (passed_stop _ _ _ _ c.loop-i.invariant.1 c.requires.ranges.2 (omega arith) (omega arith)) (omega arith) _

pub returns-then-end-next : goal.returns-then-end-next
returns-then-end-next c =
    says_true
    (passed_found _ _ _ _ c.loop-i.invariant.1 c.requires.ranges.2 (omega arith) (record { from = omega arith; below = omega arith }) _ (omega arith))

pub loop-i-preserved : goal.loop-i-preserved
loop-i-preserved c = (
  omega arith,
  passed_move _ _ _ _ c.loop-i.invariant.1 c.requires.ranges.2 (omega arith) (record { from = omega arith; below = omega arith }) _ (omega arith),
)

pub returns : goal.returns
returns c =
    passed_says _ _ _ _ c.loop-i.invariant.1 (omega arith) _
