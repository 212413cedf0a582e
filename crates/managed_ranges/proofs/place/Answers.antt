-- `managed_ranges::place` meets its contract. The invariant: the ranges from `i` on have no base below the number.
-- Assumes nothing.
use Rattle.facts.proofs.Words.{subst, arith}
use Rattle.managed_ranges.specs.{PlaceOf}
use Rattle.managed_ranges.proofs.{down_found}
use Rattle.managed_ranges.proofs.place.Goals as goal

pub returns-then-word-from : goal.returns-then-word-from
returns-then-word-from c =
    subst (PlaceOf c.args.t.now c.args.from) (omega arith)
    (down_found c.loop-i.invariant.1 c.requires.2 (omega arith) (omega (arith, c.if-word-from.true, c.word.ensures.0)))
