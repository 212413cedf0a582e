-- `socket_masks::release` meets its contract: each check's answer says which end of the rule it is.
-- Assumes nothing.
use Rattle.facts.proofs.Words.{refl}
use Rattle.facts.proofs.{handed, says_yes, says_no}
use Rattle.service_checks.proofs.{refused_ahead}
use Rattle.socket_masks.specs.Masks.{ReleaseServed}
use Rattle.socket_masks.proofs.{releasing, in_table, release_nothing, release_done}
use Rattle.socket_masks.proofs.release.Goals as goal

pub returns-in_err-i : goal.returns-in_err-i
returns-in_err-i c =
    handed (ReleaseServed _ _ _ _) _ c.from_residual.ensures refl
    (refused_ahead releasing c.requires c.args.h.0 c.args.p.now _ (c.in_err-i.ensures c.requires))

pub mask_on-requires : goal.mask_on-requires
mask_on-requires c = in_table c.requires c.in_ok-i.ensures

pub returns-then-not-mask_on : goal.returns-then-not-mask_on
returns-then-not-mask_on c =
    release_nothing c.requires c.in_ok-i.ensures (says_no c.mask_on.ensures c.if-not-mask_on.true)

pub write-requires : goal.write-requires
write-requires c = in_table c.requires c.in_ok-i.ensures

pub returns : goal.returns
returns c =
    rw c.write.ensures (release_done c.requires c.in_ok-i.ensures (says_yes c.mask_on.ensures c.if-not-mask_on.false))
