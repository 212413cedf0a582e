-- `socket_masks::request` meets its contract: each check's answer says which end of the rule it is.
-- Assumes nothing.
use Rattle.facts.proofs.Words.{refl, ap, ℕ, ◌+◌}
use Rattle.facts.proofs.{handed, says_yes, says_no}
use Rattle.service_checks.proofs.{refused_ahead}
use Rattle.socket_masks.specs.Masks.{RequestServed}
use Rattle.socket_masks.proofs.{requesting, in_table, request_bad, request_held, request_done}
use Rattle.socket_masks.proofs.request.Goals as goal

pub returns-in_err-i : goal.returns-in_err-i
returns-in_err-i c =
    handed (RequestServed _ _ _ _) _ c.from_residual.ensures refl
    (refused_ahead requesting c.requires c.args.h.0 c.args.p.now _ (c.in_err-i.ensures c.requires))

pub returns-in_err-events : goal.returns-in_err-events
returns-in_err-events c =
    handed (RequestServed _ _ _ _) _ c.from_residual-in_err-events.ensures c.in_err-events.ensures.0
    (request_bad c.requires c.in_ok-i.ensures c.in_err-events.ensures.1)

pub mask_on-held-requires : goal.mask_on-held-requires
mask_on-held-requires c = in_table c.requires c.in_ok-i.ensures

pub returns-then-held : goal.returns-then-held
returns-then-held c =
    request_held c.requires c.in_ok-i.ensures c.in_ok-events.ensures.1 (says_yes c.mask_on-held.ensures c.if-held.true)

pub write-requires : goal.write-requires
write-requires c = in_table c.requires c.in_ok-i.ensures

pub returns : goal.returns
returns c =
    rw c.write.ensures
    (request_done c.requires c.in_ok-i.ensures (c.in_ok-events.events + 1) (ap (λ (m : ℕ). m + 1) c.in_ok-events.ensures.0) c.in_ok-events.ensures.1
    (says_no c.mask_on-held.ensures c.if-held.false))
