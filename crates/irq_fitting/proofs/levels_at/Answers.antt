-- `irq_fitting::levels_at` meets its contract: there is no grant, or its level is in one of the two sets.
-- Assumes nothing.
use Rattle.std.specs.Prelude.{Some, None}
use Rattle.facts.proofs.Words.{arith}
use Rattle.layout.proofs.{size_in}
use Rattle.table_read.proofs.{one_shifted}
use Rattle.seats.proofs.{irq_read}
use Rattle.irq_fitting.proofs.{none_at, held_below, goes_at, stands_at}
use Rattle.irq_fitting.proofs.levels_at.Goals as goal

pub level_held-requires : goal.level_held-requires
level_held-requires c = size_in c.args.t.now c.requires

pub returns-in_default : goal.returns-in_default
returns-in_default c = none_at _ _ _ (irq_read _ _ c.args.s.in_table None c.in_default.ensures)

pub overflow_shl-level : goal.overflow_shl-level
overflow_shl-level c =
    omega (arith, held_below c.requires _ c.args.s.in_table c.in-Some.held c.in-Some.ensures)

pub returns-then-goes : goal.returns-then-goes
returns-then-goes c =
    let below = held_below c.requires _ c.args.s.in_table c.in-Some.held c.in-Some.ensures in
    goes_at _ _ _ _ (irq_read _ _ c.args.s.in_table (Some c.in-Some.held) c.in-Some.ensures) _ (one_shifted _ 64 (omega (arith, below)))
    (c.goes.ensures.holds c.if-goes.true)

pub returns-else-goes : goal.returns-else-goes
returns-else-goes c =
    let below = held_below c.requires _ c.args.s.in_table c.in-Some.held c.in-Some.ensures in
    stands_at _ _ _ _ (irq_read _ _ c.args.s.in_table (Some c.in-Some.held) c.in-Some.ensures) _ (one_shifted _ 64 (omega (arith, below)))
    (c.goes.ensures.fails c.if-goes.false)
