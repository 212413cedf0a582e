-- `managed_holders::ports_at` meets its contract: nothing is held at the seat, or other ports, or some of these, shared or not.
-- Assumes nothing.
use Rattle.std.specs.Prelude.{Some, None}
use Rattle.facts.proofs.Words.{true, false}
use Rattle.facts.proofs.{says_yes, says_no}
use Rattle.layout.specs.{facts_in}
use Rattle.seats.proofs.{io_read}
use Rattle.managed_holders.proofs.{ports_free, ports_other, ports_here}
use Rattle.managed_holders.proofs.ports_at.Goals as goal

pub returns-in_err-held : goal.returns-in_err-held
returns-in_err-held c =
    rw c.from_residual.ensures (ports_free (facts_in c.args.t.now) _ _ c.args.s.number (io_read _ _ c.args.s.in_table None c.in_err-held.ensures))

pub returns-else-overlaps : goal.returns-else-overlaps
returns-else-overlaps c =
    ports_other (facts_in c.args.t.now) _ _ c.args.s.number _ (io_read _ _ c.args.s.in_table (Some _) c.in_ok-held.ensures)
    (says_no c.overlaps.ensures c.if-overlaps.false)

pub returns-then-held : goal.returns-then-held
returns-then-held c =
    ports_here (facts_in c.args.t.now) _ _ c.args.s.number _ (io_read _ _ c.args.s.in_table (Some _) c.in_ok-held.ensures)
    (says_yes c.overlaps.ensures c.if-overlaps.true) true c.if-held.true

pub returns-else-held : goal.returns-else-held
returns-else-held c =
    ports_here (facts_in c.args.t.now) _ _ c.args.s.number _ (io_read _ _ c.args.s.in_table (Some _) c.in_ok-held.ensures)
    (says_yes c.overlaps.ensures c.if-overlaps.true) false c.if-held.false
