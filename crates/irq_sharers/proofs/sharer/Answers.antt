-- `irq_sharers::sharer` meets its contract: there is no grant, or its level says whether it is one.
-- Assumes nothing.
use Rattle.std.specs.Prelude.{Some, None}
use Rattle.facts.proofs.Words.{refl, arith}
use Rattle.seats.proofs.{irq_read}
use Rattle.irq_sharers.proofs.sharer.Goals as goal

pub returns-in_default : goal.returns-in_default
returns-in_default c = (rw (irq_read c.args.t.now c.args.s.number c.args.s.in_table None c.in_default.ensures) refl, omega arith)

pub returns : goal.returns
returns c = (rw (irq_read c.args.t.now c.args.s.number c.args.s.in_table (Some c.in-Some.held) c.in-Some.ensures) (grind arith), grind arith)
