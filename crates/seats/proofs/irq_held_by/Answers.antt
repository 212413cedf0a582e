-- `seats::irq_held_by` meets its contract: the client is not 0, and is the one of the seat's record.
-- Assumes nothing.
use Rattle.facts.proofs.{says_as}
use Rattle.seats.proofs.{irq_said_by, irq_by_said}
use Rattle.seats.proofs.irq_held_by.Goals as goal

pub returns : goal.returns
returns c =
    says_as (rw c.irq_place.ensures.0 at c.recorded.ensures) (irq_said_by _ _ c.args.s.in_table _) (irq_by_said _ _ c.args.s.in_table _)
