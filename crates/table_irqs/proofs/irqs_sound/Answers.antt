-- `table_irqs::irqs_sound` meets its contract. The loop's invariant: the seats passed are sound, and the set has each level that their grants hold,
-- in its manner.
-- Assumes nothing.
use Rattle.facts.proofs.Words.{◌-◌, ◌/◌, ◌≤◌, ◌<◌, arith, eqb, eq-eqb, ne_eqb, bit_and, Says}
use Rattle.facts.specs.{most_seats}
use Rattle.facts.proofs.{says_false, says_false_by, says_yes}
use Rattle.layout.specs.{sockets_in, irqs_at, irq_size, irq_place_lem, IrqPlaceSound, IrqPairSound}
use Rattle.table_read.proofs.{so_far_more, exactly_more}
use Rattle.seats.specs.{CompanySound}
use Rattle.seats.proofs.{sound_zero}
use Rattle.table_irqs.proofs.{held_says}
use Rattle.table_irqs.proofs.irqs_sound.Goals as goal

pub returns-then-not-zero : goal.returns-then-not-zero
returns-then-not-zero c =
    says_false_by c.zero-2.ensures c.if-not-zero.true
    (sound_zero c.args.t.now _ _ irq_size irq_place_lem (λ i. (i - irqs_at) / irq_size)
    (λ i f l. (omega arith, omega arith, record { from = omega arith; below = omega arith })) (λ s g. omega (arith, g.socket, c.byte-sockets.ensures.0)))

pub returns-then-held-holding-ne0 : goal.returns-then-held-holding-ne0
returns-then-held-holding-ne0 c =
    let below : c.loop-s.s < sockets_in c.args.t.now = omega (arith, c.loop-s-test.true, c.byte-sockets.ensures.0) in
    let few : c.byte-sockets.result ≤ most_seats = omega (arith, c.byte-sockets.ensures.0, c.requires.1.sockets_most) in
    let company : Says (eqb (bit_and c.loop-s.held c.irq_holding-holding.result.against) 0) (CompanySound (IrqPairSound c.args.t.now) c.loop-s.s) =
    held_says _ _ (λ u l. (c.loop-s.invariant.0.each u l).place) _ _ c.loop-s.invariant.1 (rw c.new-seat.ensures at c.irq_holding-holding.ensures.against) in
    says_false (λ all. company.fails (ne_eqb _ _ c.if-held-holding-ne0.true) (all _ (omega (arith, below, few))).company)

pub loop-s-preserved : goal.loop-s-preserved
loop-s-preserved c =
    let place : IrqPlaceSound c.args.t.now c.loop-s.s = rw c.new-seat.ensures at (says_yes c.irq_place_sound.ensures c.if-not-irq_place_sound.false) in
    let company : Says (eqb (bit_and c.loop-s.held c.irq_holding-holding.result.against) 0) (CompanySound (IrqPairSound c.args.t.now) c.loop-s.s) =
    held_says _ _ (λ u l. (c.loop-s.invariant.0.each u l).place) _ _ c.loop-s.invariant.1 (rw c.new-seat.ensures at c.irq_holding-holding.ensures.against) in
    let inv = c.loop-s.invariant in (
      so_far_more inv.0 c.loop-s-test.true
          (record { place = place; company = company.holds (eq-eqb _ _ c.if-held-holding-ne0.false) }),
      exactly_more _ _ _ inv.1 (rw c.new-seat.ensures at c.irq_holding-holding.ensures.own),
    )
