-- `managed_adjust::show_level` meets its contract: no level follows, or the lowest that does is written, with what its holders show.
-- Assumes nothing.
use Rattle.facts.proofs.Words.{arith}
use Rattle.facts.proofs.{handed, given, missing}
use Rattle.facts.specs.{ShowLevel}
use Rattle.managed_levels.specs.{NextLevelIs}
use Rattle.managed_adjust.specs.{ServesBy}
use Rattle.managed_adjust.proofs.{level_none, level_shown}
use Rattle.managed_adjust.proofs.show_level.Goals as goal

pub returns-in_err-l : goal.returns-in_err-l
returns-in_err-l c =
    let none = missing (NextLevelIs c.args.t.now c.from-from.result) _ _ c.ok_or.ensures.value c.in_err-l.was c.next.ensures in
    handed (ServesBy ShowLevel 0 _ _ _ _) _ c.from_residual.ensures none.0
    (level_none _ c.requires.0 (rw (c.from.ensures, c.requires.2.action_is, c.from-2.ensures) at c.from-from.ensures) none.1)

pub overflow_cast-p : goal.overflow_cast-p
overflow_cast-p c =
    let a = c.requires.0 in
    let at = given (NextLevelIs c.args.t.now c.from-from.result) _ _ c.ok_or.ensures.value c.in_ok-l.was c.next.ensures a in
    omega (arith, a.formed.levels c.in_ok-l.l at.fits.0)

pub returns : goal.returns
returns c =
    let at = given (NextLevelIs c.args.t.now c.from-from.result) _ _ c.ok_or.ensures.value c.in_ok-l.was c.next.ensures in
    level_shown _ c.requires.0 (rw (c.from.ensures, c.requires.2.action_is, c.from-2.ensures) at c.from-from.ensures) c.of_level-holders.result at
    c.of_level-holders.ensures c.handle_shown.ensures (rw c.attributes_shown.ensures)
