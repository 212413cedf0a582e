-- `seats::held` meets its contract: there is no grant, or its record is read field by field.
-- Assumes nothing.
use Rattle.facts.proofs.Words.{◌≡◌, ap, ◌∙◌, refl, arith}
use Rattle.facts.specs.{word}
use Rattle.layout.specs.{io_place_lem, io_in}
use Rattle.seats.proofs.held.Goals as goal

pub returns : goal.returns
unfolding io_in
returns c =
    let client : let a = c.args in c.handle-client.result.0 ≡ word (a.t.now) (io_place_lem a.s.number) =
    c.handle-client.ensures ∙ ap (word c.args.t.now) c.io_place-at.ensures.0 in (
      λ e. grind (arith, client, e),
      rw (client, c.word-base.ensures.0, c.byte-count.ensures.0, c.byte-lines.ensures.0, c.byte-shared.ensures.0, c.io_place-at.ensures.0) refl,
    )
