-- `grants::level_of` meets its contract: nothing is held there, or what is read of the seat is compared; the manner is read too.
-- Assumes nothing.
use Rattle.std.specs.Prelude.{Some, None}
use Rattle.facts.proofs.Words.{refl, ◌∙◌, sym}
use Rattle.seats.proofs.{irq_read}
use Rattle.grants.proofs.{no_level, level_held, other_level}
use Rattle.grants.proofs.level_of.Goals as goal

pub returns-in_default : goal.returns-in_default
returns-in_default c = (refl, no_level _ _ _ _ (irq_read c.args.t.now c.args.seat.number c.args.seat.in_table None c.in_default.ensures))

pub returns-then-same : goal.returns-then-same
returns-then-same c =
    level_held _ _ _ _ _ (irq_read _ _ c.args.seat.in_table (Some c.in-Some.x) c.in-Some.ensures) (sym c.eq-same.ensures ∙ c.if-same.true)

pub returns-else-same : goal.returns-else-same
returns-else-same c =
    (refl, other_level _ _ _ _ _ (irq_read _ _ c.args.seat.in_table (Some c.in-Some.x) c.in-Some.ensures) (sym c.eq-same.ensures ∙ c.if-same.false))
