-- `managed_ranges::add` meets its contract: the bits, or the ports that are named, are wrong, or the ports are put in.
-- Assumes nothing.
use Rattle.facts.proofs.Words.{refl, inl, ℕ, eqb}
use Rattle.facts.proofs.{handed}
use Rattle.facts.specs.{Facts, put_checks, range_added, reserve_bit}
use Rattle.layout.proofs.{stays}
use Rattle.managed_ranges.specs.{AddsRange}
use Rattle.managed_ranges.proofs.{ports_wrong, own_change}
use Rattle.managed_ranges.proofs.add.Goals as goal

pub returns-in_err-reserved : goal.returns-in_err-reserved
returns-in_err-reserved c =
    let e = c.in_err-reserved.ensures in
    handed (AddsRange _ _ _ _ _ _) _ c.from_residual.ensures e.0 (stays _ _ c.requires (inl (inl e.1, refl), refl))

pub returns-in_err-base : goal.returns-in_err-base
returns-in_err-base c =
    handed (AddsRange _ _ _ _ _ _) _ c.from_residual-in_err-base.ensures refl
    (stays _ _ c.requires (ports_wrong c.args.r.base (put_checks _ _ _) c.in_ok-reserved.ensures.0 c.in_err-base.ensures, refl))

pub returns : goal.returns
returns c =
    let r = c.args.r in
    own_change put_checks (λ (x y : ℕ) (F : Facts). range_added F x y r.attributes) _ _ c.in_ok-reserved.ensures.0 c.in_ok-base.ensures c.put.result
    (c.put.ensures (eqb r.attributes reserve_bit) c.in_ok-reserved.ensures.1)
