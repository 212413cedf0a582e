-- `table_irqs::irq_holding` meets its contract: a level below 16 and a manner below 4 are a number below 64, so no bit is shifted out.
-- Assumes nothing.
use Rattle.facts.proofs.Words.{◌∙◌, ◌<◌, arith, shl_exact}
use Rattle.layout.specs.{irq_size, irq_place_lem, IrqUsed}
use Rattle.layout.proofs.{used_sound}
use Rattle.table_read.proofs.{one_shifted}
use Rattle.table_irqs.specs.{held_as}
use Rattle.table_irqs.proofs.{own_held, apart_against}
use Rattle.table_irqs.proofs.irq_holding.Goals as goal

pub returns : goal.returns
returns c =
    let used : IrqUsed c.args.t.now c.args.s.number = λ e. c.if-word-eq0.false ((rw c.irq_place-at.ensures.0 at c.word.ensures.0) ∙ e) in
    let number : held_as c.byte-first.result c.byte-manner.result < 64 =
    let g = used_sound c.args.t.now (irq_place_lem c.args.s.number) irq_size (omega arith) c.requires.1 used in
    omega (arith, g.level, g.manner, rw c.irq_place-at.ensures.0 at c.byte-first.ensures.0, rw c.irq_place-at.ensures.0 at c.byte-manner.ensures.0) in
    let manner = rw c.irq_place-at.ensures.0 at c.byte-manner.ensures.0 in
    let level = rw c.irq_place-at.ensures.0 at c.byte-first.ensures.0 in
    let here = used in
    let apart = rw c.manner_of.ensures at c.apart.ensures in
    record {
      own = own_held c.args.t.now c.args.s.number level manner here _ (one_shifted _ 64 number);
      against = apart_against c.args.t.now c.args.s.number level manner here _ _ apart (shl_exact 4 _ 64 apart.manners (omega (arith, number)));
    }
