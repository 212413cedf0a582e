-- `managed_adjust::adjust_irq` meets its contract: the length is wrong, or the action rules.
-- Assumes nothing.
use Rattle.facts.proofs.Words.{refl, sym, ap, ◌∙◌, inl, inr, arith}
use Rattle.facts.proofs.{handed}
use Rattle.facts.specs.{AdjustResourceInfo}
use Rattle.managed_packets.specs.{number_of}
use Rattle.managed_adjust.specs.{ServesBy}
use Rattle.managed_adjust.proofs.{wrong_length, irq_serves, first_or_next}
use Rattle.managed_adjust.proofs.adjust_irq.Goals as goal

pub returns-in_err-sized : goal.returns-in_err-sized
returns-in_err-sized c =
    handed (ServesBy AdjustResourceInfo _ _ _ _ _) _ c.from_residual.ensures c.in_err-sized.ensures.0
    (wrong_length c.requires.0 c.requires.1 (omega arith) (omega arith) (inl (refl, c.in_err-sized.ensures.1)))

pub returns-in-Remove : goal.returns-in-Remove
returns-in-Remove c =
    let reached = c.requires.1 in
    irq_serves reached c.in_ok-sized.ensures (λ F G x. inr (inl (sym reached.names.action_is ∙ ap number_of c.in-Remove.is, x))) c.remove_level.ensures

pub returns-in-Add : goal.returns-in-Add
returns-in-Add c =
    let reached = c.requires.1 in
    irq_serves reached c.in_ok-sized.ensures (λ F G x. inl (sym reached.names.action_is ∙ ap number_of c.in-Add.is, x)) c.add_level.ensures

pub returns-in-First : goal.returns-in-First
returns-in-First c =
    let reached = c.requires.1 in
    irq_serves reached c.in_ok-sized.ensures (λ F G x. inr (inr (first_or_next reached.names.action_is c.in-First.is, x))) c.show_level.ensures
