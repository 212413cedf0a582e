-- `managed_levels::remove` meets its contract: each check's answer says which end of the rule it is.
-- Assumes nothing.
use Rattle.facts.proofs.Words.{refl, sym, ◌∙◌, inl, inr, false, true≢false, arith}
use Rattle.facts.proofs.{handed, says_yes, says_no}
use Rattle.layout.proofs.{size_in, stays, becomes, level_written}
use Rattle.managed_levels.specs.{RemovesLevel}
use Rattle.managed_levels.proofs.{managed_said, held_said}
use Rattle.managed_levels.proofs.remove.Goals as goal

pub returns-in_err-no_bit : goal.returns-in_err-no_bit
returns-in_err-no_bit c =
    let e = c.in_err-no_bit.ensures in
    handed (RemovesLevel _ _ _ _) _ c.from_residual.ensures e.0 (stays _ _ c.requires (inl (e.1, refl), refl))

pub returns-in_err-l : goal.returns-in_err-l
returns-in_err-l c =
    let e = c.in_err-l.ensures in
    handed (RemovesLevel _ _ _ _) _ c.from_residual-in_err-l.ensures e.0
    (stays _ _ c.requires (inr ((λ n. n c.in_ok-no_bit.ensures), inl (e.1, refl)), refl))

pub is_managed-requires : goal.is_managed-requires
is_managed-requires c = (size_in _ c.requires, omega (arith, c.in_ok-l.ensures))

pub returns-then-not-is_managed : goal.returns-then-not-is_managed
returns-then-not-is_managed c =
    let low = c.in_ok-l.ensures.1 in
    let free = managed_said c.requires low (rw c.in_ok-l.ensures.0 at c.if-not-is_managed.ensures) in
    stays _ _ c.requires (inr ((λ n. n c.in_ok-no_bit.ensures), inr ((λ h. omega (arith, low)), inl (free, refl))), refl)

pub returns-then-is_some : goal.returns-then-is_some
returns-then-is_some c =
    let low = c.in_ok-l.ensures.1 in
    let managed = managed_said c.requires low (rw c.in_ok-l.ensures.0 at c.if-not-is_managed.ensures) in
    let held = says_yes (held_said _ ((rw c.in_ok-l.ensures.0 at c.of_level.ensures) c.requires)) (sym c.if-is_some.ensures) in
    stays _ _ c.requires
    (inr ((λ n. n c.in_ok-no_bit.ensures), inr ((λ h. omega (arith, low)), inr ((λ f. true≢false (sym managed ∙ f)), inl (held, refl)))), refl)

pub mark-requires : goal.mark-requires
mark-requires c = (size_in _ c.requires, omega (arith, c.in_ok-l.ensures))

pub returns : goal.returns
returns c =
    let low = c.in_ok-l.ensures.1 in
    let managed = managed_said c.requires low (rw c.in_ok-l.ensures.0 at c.if-not-is_managed.ensures) in
    let nobody = says_no (held_said _ ((rw c.in_ok-l.ensures.0 at c.of_level.ensures) c.requires)) (sym c.if-is_some.ensures) in
    becomes _ _ _ c.requires _
    (((λ n. n c.in_ok-no_bit.ensures), ((λ h. omega (arith, low)), ((λ f. true≢false (sym managed ∙ f)), (nobody, tt)))), refl)
    (level_written _ _ c.requires _ (record { managed = false; reserved = false }) low (rw c.in_ok-l.ensures.0 at c.mark.ensures))
