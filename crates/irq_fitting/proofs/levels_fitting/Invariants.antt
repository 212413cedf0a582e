-- What the loops of `irq_fitting::levels_fitting` keep.
use Rattle.facts.proofs.Words.{◌≤◌, true, false}
use Rattle.facts.specs.{all_levels}
use Rattle.layout.specs.{facts_in}
use Rattle.table_read.specs.{HasJust, SomeBelow}
use Rattle.irq_fitting.specs.{FitsHere}
use Rattle.irq_fitting.proofs.levels_fitting.Given as goal

abbrev pub invariant-loop-l : goal.invariant-loop-l
invariant-loop-l l = (l.l ≤ all_levels)
    × HasJust l.unreserved (SomeBelow l.l (FitsHere (facts_in l.t) l.asked false))
    × HasJust l.reserved (SomeBelow l.l (FitsHere (facts_in l.t) l.asked true))
