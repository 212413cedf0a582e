-- `managed_adjust::add_range` meets its contract at either width: the change is made or refused with what the packet names.
-- Assumes nothing.
use Rattle.facts.proofs.Words.{refl}
use Rattle.facts.proofs.{handed}
use Rattle.facts.specs.{Facts, AddRange, add_range_checks, base_given, count_given, attributes_given, lines_given}
use Rattle.managed_adjust.specs.{ServesBy}
use Rattle.managed_adjust.proofs.{made, refused_by}
use Rattle.managed_adjust.proofs.add_range.Goals as goal

pub returns-in_err-add : goal.returns-in_err-add
returns-in_err-add c =
    let p = c.args.p.now in
    let w = c.args.w in
    let is = c.asked.ensures in
    handed (ServesBy (AddRange w) c.args.h.0 p p _ _) _ c.from_residual.ensures refl
    (refused_by (λ (F : Facts). add_range_checks F (base_given w p) (count_given w p) (attributes_given w p) (lines_given w p))
    (rw (is.base_is, is.count_is, is.attributes_are, is.lines_are) at c.in_err-add.ensures))

pub returns : goal.returns
returns c =
    let p = c.args.p.now in
    let w = c.args.w in
    let is = c.asked.ensures in
    made (λ (F : Facts). add_range_checks F (base_given w p) (count_given w p) (attributes_given w p) (lines_given w p))
    (rw (is.base_is, is.count_is, is.attributes_are, is.lines_are) at c.in_ok-add.ensures)
