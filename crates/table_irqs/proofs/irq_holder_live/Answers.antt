-- `table_irqs::irq_holder_live` meets its contract: a client that holds the seat's I/O grant is live.
-- Assumes nothing.
use Rattle.facts.proofs.Words.{subst, sym, ◌∙◌, arith}
use Rattle.facts.proofs.{says_true}
use Rattle.layout.specs.{io_size, io_place_lem, LiveIn}
use Rattle.layout.proofs.{used_sound}
use Rattle.seats.proofs.{io_by_said}
use Rattle.table_irqs.proofs.irq_holder_live.Goals as goal

pub returns-then-io_held_by : goal.returns-then-io_held_by
returns-then-io_held_by c =
    let b = c.args.t.now in
    let same = io_by_said _ _ c.args.s.in_table _ (c.io_held_by.ensures.holds c.if-io_held_by.true) in
    rw c.if-io_held_by.true
    (says_true (subst (LiveIn b) same.1 (used_sound b (io_place_lem c.args.s.number) io_size (omega arith) c.requires.2 (λ z. same.0 (sym same.1 ∙ z))).client))
