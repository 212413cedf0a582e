-- `io_services::release` meets its contract: each check's answer says which end of the rule it is.
-- Assumes nothing.
use Rattle.facts.proofs.Words.{arith, refl}
use Rattle.facts.proofs.{handed}
use Rattle.facts.specs.{base_asked_lem, count_asked_lem, IoHeld}
use Rattle.layout.specs.{facts_in}
use Rattle.layout.proofs.{size_in}
use Rattle.service_checks.proofs.{refused_ahead}
use Rattle.io_services.specs.Granting.{ReleaseServed}
use Rattle.io_services.proofs.{releasing, release_second, release_unheld, release_done}
use Rattle.io_services.proofs.release.Goals as goal

pub returns-in_err-seat : goal.returns-in_err-seat
returns-in_err-seat c =
    handed (ReleaseServed _ _ _ _) _ c.from_residual.ensures refl (refused_ahead releasing c.requires c.args.h.0 c.args.p.now _ (c.in_err-seat.ensures c.requires))

pub returns-in_err-second_asked : goal.returns-in_err-second_asked
returns-in_err-second_asked c =
    handed (ReleaseServed _ _ _ _) _ c.from_residual-in_err-second_asked.ensures c.in_err-second_asked.ensures.0
    (release_second c.requires c.in_ok-seat.ensures c.in_err-second_asked.ensures.1)

pub ports_of-requires : goal.ports_of-requires
ports_of-requires c = size_in _ c.requires

pub returns-in_err-ports_of : goal.returns-in_err-ports_of
returns-in_err-ports_of c =
    let unheld : IoHeld (facts_in c.args.t.now) c.args.h.0 _ (base_asked_lem c.args.p.now) (count_asked_lem c.args.p.now) → ⊥ =
    rw (c.base_asked-base.ensures.0, c.count_asked-count.ensures.0) at c.in_err-ports_of.ensures.1 in
    handed (ReleaseServed _ _ _ _) _ c.from_residual-in_err-ports_of.ensures c.in_err-ports_of.ensures.0
    (release_unheld c.requires c.in_ok-seat.ensures c.in_ok-second_asked.ensures unheld)

pub enter_ports-requires : goal.enter_ports-requires
enter_ports-requires c =
    (size_in _ c.requires, omega arith, omega arith, omega arith, omega arith)

pub returns : goal.returns
returns c =
    let held : IoHeld (facts_in c.args.t.now) c.args.h.0 _ (base_asked_lem c.args.p.now) (count_asked_lem c.args.p.now) =
    rw (c.base_asked-base.ensures.0, c.count_asked-count.ensures.0) at c.in_ok-ports_of.ensures in
    rw c.enter_ports.ensures (release_done c.requires c.in_ok-seat.ensures c.in_ok-second_asked.ensures held)
