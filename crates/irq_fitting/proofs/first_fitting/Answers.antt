-- `irq_fitting::first_fitting` meets its contract: the lowest of the unreserved levels that fit, or of the reserved ones, or there is none.
-- Assumes nothing.
use Rattle.facts.proofs.Words.{arith}
use Rattle.seats.proofs.{formed_in}
use Rattle.irq_fitting.proofs.{trailing_lowest, all_barred, unreserved_taken, reserved_taken}
use Rattle.irq_fitting.proofs.first_fitting.Goals as goal

pub returns-then-asked-way : goal.returns-then-asked-way
returns-then-asked-way c =
    all_barred _ (formed_in _ c.requires.0) _ _ c.requires.1 c.if-asked-way.true

pub returns-then-fitting-ne0 : goal.returns-then-fitting-ne0
returns-then-fitting-ne0 c =
    unreserved_taken _ _ _ c.levels_fitting-fitting.ensures _ (trailing_lowest 64 _ c.if-fitting-ne0.true (omega arith))

pub returns-then-fitting-ne0-2 : goal.returns-then-fitting-ne0-2
returns-then-fitting-ne0-2 c =
    reserved_taken _ _ _ c.levels_fitting-fitting.ensures c.if-fitting-ne0.false _ (trailing_lowest 64 _ c.if-fitting-ne0-2.true (omega arith))
