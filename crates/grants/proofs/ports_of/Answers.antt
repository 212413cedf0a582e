-- `grants::ports_of` meets its contract: nothing is held there, or what is read of the seat is compared.
-- Assumes nothing.
use Rattle.std.specs.Prelude.{Some, None}
use Rattle.facts.proofs.Words.{refl, ◌∙◌, sym}
use Rattle.seats.proofs.{io_read}
use Rattle.grants.proofs.{no_ports, ports_said}
use Rattle.grants.proofs.ports_of.Goals as goal

pub returns-in_default : goal.returns-in_default
returns-in_default c = (refl, no_ports _ _ _ _ _ (io_read c.args.t.now c.args.seat.number c.args.seat.in_table None c.in_default.ensures))

pub returns-then-same : goal.returns-then-same
returns-then-same c =
    (ports_said _ _ _ _ _ _ (io_read _ _ c.args.seat.in_table (Some c.in-Some.x) c.in-Some.ensures)).holds (sym c.eq-same.ensures ∙ c.if-same.true)

pub returns-else-same : goal.returns-else-same
returns-else-same c =
    (refl, (ports_said _ _ _ _ _ _ (io_read _ _ c.args.seat.in_table (Some c.in-Some.x) c.in-Some.ensures)).fails (sym c.eq-same.ensures ∙ c.if-same.false))
