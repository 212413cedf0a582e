-- `managed_adjust::remove_range` meets its contract at either width: the change is made or refused with what the packet names.
-- Assumes nothing.
use Rattle.facts.proofs.Words.{refl}
use Rattle.facts.proofs.{handed}
use Rattle.facts.specs.{Facts, RemoveRange, remove_range_checks, base_given, count_given, attributes_given, lines_given}
use Rattle.managed_adjust.specs.{ServesBy}
use Rattle.managed_adjust.proofs.{made, refused_by}
use Rattle.managed_adjust.proofs.remove_range.Goals as goal

pub returns-in_err-remove : goal.returns-in_err-remove
returns-in_err-remove c =
    let p = c.args.p.now in
    let w = c.args.w in
    let is = c.asked.ensures in
    handed (ServesBy (RemoveRange w) c.args.h.0 p p _ _) _ c.from_residual.ensures refl
    (refused_by (λ (F : Facts). remove_range_checks F (base_given w p) (count_given w p) (attributes_given w p) (lines_given w p))
    (rw (is.base_is, is.count_is, is.attributes_are, is.lines_are) at c.in_err-remove.ensures))

pub returns : goal.returns
returns c =
    let p = c.args.p.now in
    let w = c.args.w in
    let is = c.asked.ensures in
    made (λ (F : Facts). remove_range_checks F (base_given w p) (count_given w p) (attributes_given w p) (lines_given w p))
    (rw (is.base_is, is.count_is, is.attributes_are, is.lines_are) at c.in_ok-remove.ensures)
