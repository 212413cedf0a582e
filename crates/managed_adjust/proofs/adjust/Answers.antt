-- `managed_adjust::adjust` meets its contract: the head is refused, or the resource rules.
-- Assumes nothing.
use Rattle.facts.proofs.Words.{arith}
use Rattle.facts.proofs.{handed}
use Rattle.facts.specs.{AdjustResourceInfo}
use Rattle.managed_adjust.specs.{ServesBy}
use Rattle.managed_adjust.proofs.{too_short, action_over, resource_refused}
use Rattle.managed_adjust.proofs.adjust.Goals as goal

pub returns-in_err-action : goal.returns-in_err-action
returns-in_err-action c =
    let short = c.in_err-action.ensures in
    handed (ServesBy AdjustResourceInfo _ _ _ _ _) _ c.from_residual.ensures short.0 (too_short c.requires short.1)

pub returns-in_err-action-2 : goal.returns-in_err-action-2
returns-in_err-action-2 c =
    let over = c.in_err-action-2.ensures in
    handed (ServesBy AdjustResourceInfo _ _ _ _ _) _ c.from_residual-in_err-action-2.ensures over.0 (action_over c.requires c.in_ok-action.ensures over.1)

pub returns-in-Err : goal.returns-in-Err
returns-in-Err c = resource_refused c.requires (record { names = c.in_ok-action.ensures; most = grind arith }) c.in-Err.ensures
