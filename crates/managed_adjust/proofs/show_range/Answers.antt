-- `managed_adjust::show_range` meets its contract at either width: no range follows, it has too many ports, or it is written, with what its holders show.
-- Assumes nothing.
use Rattle.facts.proofs.{handed, given, missing}
use Rattle.facts.specs.{ShowRange}
use Rattle.managed_ranges.specs.{NextRangeIs}
use Rattle.managed_adjust.specs.{ServesBy}
use Rattle.managed_adjust.proofs.{range_none, range_too_many, range_shown}
use Rattle.managed_adjust.proofs.show_range.Goals as goal

pub returns-in_err-base : goal.returns-in_err-base
returns-in_err-base c =
    let none = missing (NextRangeIs c.args.t.now c.from-from.result) _ _ c.ok_or.ensures.value c.in_err-base.was c.next.ensures in
    handed (ServesBy (ShowRange c.args.w) 0 _ _ _ _) _ c.from_residual.ensures none.0
    (range_none _ c.requires.0 (rw (c.from.ensures, c.requires.2.action_is, c.asked.ensures.base_is) at c.from-from.ensures) none.1)

pub returns-in_err-can_show : goal.returns-in_err-can_show
returns-in_err-can_show c =
    let at = given (NextRangeIs c.args.t.now c.from-from.result) _ _ c.ok_or.ensures.value c.in_ok-base.was c.next.ensures in
    let many = c.in_err-can_show.ensures in
    let a = c.requires.0 in
    handed (ServesBy (ShowRange c.args.w) 0 _ _ _ _) _ c.from_residual-in_err-can_show.ensures many.0
    (range_too_many _ a (rw (c.from.ensures, c.requires.2.action_is, c.asked.ensures.base_is) at c.from-from.ensures) (at a) many.1)

pub returns : goal.returns
returns c =
    let at = given (NextRangeIs c.args.t.now c.from-from.result) _ _ c.ok_or.ensures.value c.in_ok-base.was c.next.ensures in
    let a = c.requires.0 in
    range_shown _ a (rw (c.from.ensures, c.requires.2.action_is, c.asked.ensures.base_is) at c.from-from.ensures) (at a) c.of_range-holders.result
    c.in_ok-can_show.ensures c.of_range-holders.ensures c.handle_shown.ensures (rw c.attributes_shown.ensures at c.write.ensures)
