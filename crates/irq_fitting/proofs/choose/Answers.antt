-- `irq_fitting::choose` meets its contract: the lowest level that can be joined, or the first that fits.
-- Assumes nothing.
use Rattle.std.proofs.lemmas.Nat.{and_le_l}
use Rattle.facts.proofs.Words.{arith}
use Rattle.seats.proofs.{formed_in}
use Rattle.irq_fitting.proofs.{trailing_lowest, joined_said, lowest_taken, first_is_taken}
use Rattle.irq_fitting.proofs.choose.Goals as goal

pub returns-then-joined-eq0 : goal.returns-then-joined-eq0
returns-then-joined-eq0 c =
    first_is_taken _ _ _ (joined_said _ (formed_in _ c.requires) _ _ c.levels_held-held.ensures.together) c.if-joined-eq0.true _ c.first_fitting.ensures

pub returns : goal.returns
returns c =
    let low = and_le_l c.levels_held-held.result.together c.args.asked.named in
    lowest_taken _ _ _ (joined_said _ (formed_in _ c.requires) _ _ c.levels_held-held.ensures.together) _
    (trailing_lowest 64 _ c.if-joined-eq0.false (omega (arith, low)))
