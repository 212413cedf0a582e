-- `irq_fitting::fitting_at` meets its contract: the level fits, and the reserve mark says in which set it is, or it is in neither.
-- Assumes nothing.
use Rattle.facts.proofs.Words.{arith}
use Rattle.facts.proofs.{says_yes}
use Rattle.layout.proofs.{size_in}
use Rattle.table_read.proofs.{one_shifted}
use Rattle.irq_fitting.proofs.{reserved_by, unreserved_by, reserved_here, unreserved_here}
use Rattle.irq_fitting.proofs.fitting_at.Goals as goal

pub byte-requires : goal.byte-requires
byte-requires c =
    omega (arith, size_in c.args.t.now c.requires.0, c.requires.2)

pub returns-then-byte-eq-MARKED : goal.returns-then-byte-eq-MARKED
returns-then-byte-eq-MARKED c =
    reserved_here _ _ _ (says_yes c.level_fits.ensures c.if-not-level_fits.false) _ (one_shifted _ 64 (omega (arith, c.requires.2)))
    (reserved_by _ _ c.requires.2 c.byte.ensures.0 c.if-byte-eq-MARKED.true)

pub returns-else-byte-eq-MARKED : goal.returns-else-byte-eq-MARKED
returns-else-byte-eq-MARKED c =
    unreserved_here _ _ _ (says_yes c.level_fits.ensures c.if-not-level_fits.false) _ (one_shifted _ 64 (omega (arith, c.requires.2)))
    (unreserved_by _ _ c.requires.2 c.byte.ensures.0 c.if-byte-eq-MARKED.false)
