-- `seats::level_held` meets its contract: there is no grant, or its record is read field by field.
-- Assumes nothing.
use Rattle.facts.proofs.Words.{◌≡◌, ap, ◌∙◌, refl, arith}
use Rattle.facts.specs.{word}
use Rattle.layout.specs.{irq_place_lem, irq_in}
use Rattle.seats.proofs.level_held.Goals as goal

pub returns : goal.returns
unfolding irq_in
returns c =
    let client : let a = c.args in c.handle-client.result.0 ≡ word (a.t.now) (irq_place_lem a.s.number) =
    c.handle-client.ensures ∙ ap (word c.args.t.now) c.irq_place-at.ensures.0 in (
      λ e. grind (arith, client, e),
      rw (client, c.manner_of-manner.ensures, c.byte-level.ensures.0, c.byte.ensures.0, c.irq_place-at.ensures.0) refl,
    )
