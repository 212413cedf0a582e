-- `managed_adjust::remove_level` meets its contract: the change is made or refused with what the packet names.
-- Assumes nothing.
use Rattle.facts.proofs.Words.{refl}
use Rattle.facts.proofs.{handed}
use Rattle.facts.specs.{Facts, RemoveLevel, remove_level_checks, level_given, level_attributes}
use Rattle.managed_adjust.specs.{ServesBy}
use Rattle.managed_adjust.proofs.{made, refused_by}
use Rattle.managed_adjust.proofs.remove_level.Goals as goal

pub returns-in_err-remove : goal.returns-in_err-remove
returns-in_err-remove c =
    let p = c.args.p.now in
    handed (ServesBy RemoveLevel c.args.h.0 p p _ _) _ c.from_residual.ensures refl
    (refused_by (λ (F : Facts). remove_level_checks F (level_given p) (level_attributes p)) (rw c.from.ensures at c.in_err-remove.ensures))

pub returns : goal.returns
returns c =
    let p = c.args.p.now in
    made (λ (F : Facts). remove_level_checks F (level_given p) (level_attributes p)) (rw c.from.ensures at c.in_ok-remove.ensures)
