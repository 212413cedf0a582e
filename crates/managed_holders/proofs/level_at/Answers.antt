-- `managed_holders::level_at` meets its contract: nothing is held at the seat, or another level, or this one.
-- Assumes nothing.
use Rattle.std.specs.Prelude.{Some, None}
use Rattle.facts.proofs.Words.{ap, ℕ, ◌+◌}
use Rattle.facts.specs.{held_bit}
use Rattle.seats.proofs.{irq_read}
use Rattle.managed_holders.proofs.{level_free, level_other, level_here}
use Rattle.managed_holders.proofs.level_at.Goals as goal

pub returns-in_err-held : goal.returns-in_err-held
returns-in_err-held c =
    rw c.from_residual.ensures (level_free _ _ _ (irq_read _ _ c.args.s.in_table None c.in_err-held.ensures))

pub returns-else-held-l : goal.returns-else-held-l
returns-else-held-l c = level_other _ _ _ _ (irq_read _ _ c.args.s.in_table (Some _) c.in_ok-held.ensures) c.if-held-l.false

pub returns-then-held-l : goal.returns-then-held-l
returns-then-held-l c =
    level_here _ _ _ _ (irq_read _ _ c.args.s.in_table (Some _) c.in_ok-held.ensures) c.if-held-l.true _
    (ap (λ (n : ℕ). held_bit + n) c.type_of.ensures.0)
