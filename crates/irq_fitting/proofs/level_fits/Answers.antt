-- `irq_fitting::level_fits` meets its contract: each of the three has to hold.
-- Assumes nothing.
use Rattle.facts.proofs.Words.{sym, ◌∙◌, arith, eq-eqb, eqb-true}
use Rattle.facts.proofs.{says_false, says_as, says_not, says_yes}
use Rattle.layout.proofs.{size_in}
use Rattle.seats.proofs.{formed_in}
use Rattle.irq_fitting.proofs.{managed_read, fits_said, said_free}
use Rattle.irq_fitting.proofs.level_fits.Goals as goal

pub byte-requires : goal.byte-requires
byte-requires c =
    omega (arith, size_in c.args.t.now c.requires.0, c.requires.2)

pub returns-then-byte-ne-MARKED : goal.returns-then-byte-ne-MARKED
returns-then-byte-ne-MARKED c =
    says_false (λ x. c.if-byte-ne-MARKED.true (c.byte.ensures.0 ∙ eqb-true _ 1 (sym (managed_read c.args.t.now c.args.l c.requires.2) ∙ x.managed)))

pub returns-then-is_set : goal.returns-then-is_set
returns-then-is_set c =
    let b = c.args.t.now in
    let formed = formed_in b c.requires.0 in
    says_as (says_not c.is_set-then-is_set.ensures)
    (fits_said _ formed _ _ _ c.requires.1 (says_yes c.is_set.ensures c.if-is_set.true)
    (managed_read b c.args.l c.requires.2 ∙ eq-eqb _ 1 (sym c.byte.ensures.0 ∙ c.if-byte-ne-MARKED.false)))
    (said_free _ formed _ _ _ c.requires.1)
