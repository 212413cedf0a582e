-- `io_bases::in_the_way` meets its contract: what is held at some seat stands in the way, or at none.
-- Assumes nothing.
use Rattle.facts.proofs.Words.{refl, rules}
use Rattle.facts.specs.{most_seats}
use Rattle.layout.specs.{facts_in}
use Rattle.io_bases.specs.{StandsAt}
use Rattle.table_read.proofs.{any_says}
use Rattle.io_bases.proofs.{way-said, said_way}
use Rattle.io_bases.proofs.in_the_way.Goals as goal

pub returns-then-any : goal.returns-then-any
returns-then-any c =
    let some = any_says {P = StandsAt (facts_in c.args.t.now) c.args.asked} most_seats c.any.ensures.ran (λ x q k. search rules) (λ x q k. search rules) in
    let x = some.holds c.if-any.true in
    (refl, λ a. way-said c.args.t.now c.args.asked a x.0 x.2)

pub returns : goal.returns
returns c =
    let some = any_says {P = StandsAt (facts_in c.args.t.now) c.args.asked} most_seats c.any.ensures.ran (λ x q k. search rules) (λ x q k. search rules) in
    λ a w. some.fails c.if-any.false (said_way c.args.t.now c.args.asked a w)
