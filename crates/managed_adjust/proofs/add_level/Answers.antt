-- `managed_adjust::add_level` meets its contract: the change is made or refused with what the packet names.
-- Assumes nothing.
use Rattle.facts.proofs.Words.{refl}
use Rattle.facts.proofs.{handed}
use Rattle.facts.specs.{Facts, AddLevel, add_level_checks, level_given, level_attributes}
use Rattle.managed_adjust.specs.{ServesBy}
use Rattle.managed_adjust.proofs.{made, refused_by}
use Rattle.managed_adjust.proofs.add_level.Goals as goal

pub returns-in_err-add : goal.returns-in_err-add
returns-in_err-add c =
    let p = c.args.p.now in
    handed (ServesBy AddLevel c.args.h.0 p p _ _) _ c.from_residual.ensures refl
    (refused_by (λ (F : Facts). add_level_checks F (level_given p) (level_attributes p)) (rw c.from.ensures at c.in_err-add.ensures))

pub returns : goal.returns
returns c =
    let p = c.args.p.now in
    made (λ (F : Facts). add_level_checks F (level_given p) (level_attributes p)) (rw c.from.ensures at c.in_ok-add.ensures)
