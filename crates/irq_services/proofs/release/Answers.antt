-- `irq_services::release` meets its contract: each check's answer says which end of the rule it is.
-- Assumes nothing.
use Rattle.facts.proofs.Words.{refl, arith}
use Rattle.facts.proofs.{handed}
use Rattle.layout.proofs.{size_in}
use Rattle.service_checks.proofs.{refused_ahead}
use Rattle.irq_services.specs.Granting.{ReleaseServed}
use Rattle.irq_services.proofs.{releasing, release_unheld, release_differs, release_done}
use Rattle.irq_services.proofs.release.Goals as goal

pub returns-in_err-seat : goal.returns-in_err-seat
returns-in_err-seat c =
    handed (ReleaseServed _ _ _ _) _ c.from_residual.ensures refl
    (refused_ahead releasing c.requires c.args.h.0 c.args.p.now _ (c.in_err-seat.ensures c.requires))

pub level_of-requires : goal.level_of-requires
level_of-requires c = size_in _ c.requires

pub returns-in_err-manner : goal.returns-in_err-manner
returns-in_err-manner c =
    handed (ReleaseServed _ _ _ _) _ c.from_residual-in_err-manner.ensures c.in_err-manner.ensures.0
    (release_unheld c.requires c.in_ok-seat.ensures c.byte.ensures.0 c.in_err-manner.ensures)

pub returns-in_err-same_type : goal.returns-in_err-same_type
returns-in_err-same_type c =
    handed (ReleaseServed _ _ _ _) _ c.from_residual-in_err-same_type.ensures c.in_err-same_type.ensures.0
    (release_differs c.requires c.in_ok-seat.ensures c.byte.ensures.0 _ c.in_ok-manner.ensures c.in_err-same_type.ensures.1)

pub enter_level-requires : goal.enter_level-requires
enter_level-requires c = (size_in _ c.requires, omega arith, omega arith)

pub returns : goal.returns
returns c =
    rw c.enter_level.ensures
    (release_done c.requires c.in_ok-seat.ensures c.byte.ensures.0 _ c.in_ok-manner.ensures c.in_ok-same_type.ensures)
