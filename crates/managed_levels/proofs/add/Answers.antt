-- `managed_levels::add` meets its contract: each check's answer says which end of the rule it is.
-- Assumes nothing.
use Rattle.facts.proofs.Words.{refl, sym, ◌∙◌, inl, inr, true, true≢false, arith}
use Rattle.facts.proofs.{handed}
use Rattle.layout.proofs.{size_in, stays, becomes, level_written}
use Rattle.managed_levels.specs.{AddsLevel}
use Rattle.managed_levels.proofs.{managed_said}
use Rattle.managed_levels.proofs.add.Goals as goal

pub returns-in_err-reserved : goal.returns-in_err-reserved
returns-in_err-reserved c =
    let e = c.in_err-reserved.ensures in
    handed (AddsLevel _ _ _ _) _ c.from_residual.ensures e.0 (stays _ _ c.requires (inl (e.1, refl), refl))

pub returns-in_err-l : goal.returns-in_err-l
returns-in_err-l c =
    let e = c.in_err-l.ensures in
    handed (AddsLevel _ _ _ _) _ c.from_residual-in_err-l.ensures e.0
    (stays _ _ c.requires (inr ((λ n. n c.in_ok-reserved.ensures.0), inl (e.1, refl)), refl))

pub is_managed-requires : goal.is_managed-requires
is_managed-requires c = (size_in _ c.requires, omega (arith, c.in_ok-l.ensures))

pub returns-then-is_managed : goal.returns-then-is_managed
returns-then-is_managed c =
    let low = c.in_ok-l.ensures.1 in
    let managed = managed_said c.requires low (rw c.in_ok-l.ensures.0 at c.if-is_managed.ensures) in
    stays _ _ c.requires (inr ((λ n. n c.in_ok-reserved.ensures.0), inr ((λ h. omega (arith, low)), inl (managed, refl))), refl)

pub mark-requires : goal.mark-requires
mark-requires c = (size_in _ c.requires, omega (arith, c.in_ok-l.ensures))

pub returns : goal.returns
returns c =
    let low = c.in_ok-l.ensures.1 in
    let free = managed_said c.requires low (rw c.in_ok-l.ensures.0 at c.if-is_managed.ensures) in
    becomes _ _ _ c.requires _ (((λ n. n c.in_ok-reserved.ensures.0), ((λ h. omega (arith, low)), ((λ m. true≢false (sym m ∙ free)), tt))), refl)
    (level_written _ _ c.requires _ (record { managed = true; reserved = _ }) low
    (rw (← c.in_ok-reserved.ensures.1) (rw c.in_ok-l.ensures.0 at c.mark.ensures)))
