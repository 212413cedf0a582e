-- `managed_ranges::remove` meets its contract: there is a bit, the ports that are named are wrong, or they are taken out.
-- Assumes nothing.
use Rattle.facts.proofs.Words.{refl, inl, ℕ}
use Rattle.facts.proofs.{handed}
use Rattle.facts.specs.{Facts, take_checks, range_removed}
use Rattle.layout.proofs.{stays}
use Rattle.managed_ranges.specs.{RemovesRange}
use Rattle.managed_ranges.proofs.{ports_wrong, own_change}
use Rattle.managed_ranges.proofs.remove.Goals as goal

pub returns-in_err-no_bit : goal.returns-in_err-no_bit
returns-in_err-no_bit c =
    let e = c.in_err-no_bit.ensures in
    handed (RemovesRange _ _ _ _ _ _) _ c.from_residual.ensures e.0 (stays _ _ c.requires (inl (inl e.1, refl), refl))

pub returns-in_err-base : goal.returns-in_err-base
returns-in_err-base c =
    handed (RemovesRange _ _ _ _ _ _) _ c.from_residual-in_err-base.ensures refl
    (stays _ _ c.requires (ports_wrong c.args.r.base (take_checks _ _ _) c.in_ok-no_bit.ensures c.in_err-base.ensures, refl))

pub returns : goal.returns
returns c =
    own_change take_checks (λ (x y : ℕ) (F : Facts). range_removed F x) _ _ c.in_ok-no_bit.ensures c.in_ok-base.ensures c.take.result c.take.ensures
