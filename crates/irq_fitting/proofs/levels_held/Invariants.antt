-- What the loops of `irq_fitting::levels_held` keep.
use Rattle.facts.proofs.Words.{◌≤◌}
use Rattle.facts.specs.{most_seats}
use Rattle.layout.specs.{facts_in}
use Rattle.table_read.specs.{HasJust, SomeBelow}
use Rattle.irq_fitting.specs.{StandsAt, GoesAt}
use Rattle.irq_fitting.proofs.levels_held.Given as goal

abbrev pub invariant-loop-s : goal.invariant-loop-s
invariant-loop-s l = (l.s ≤ most_seats) × HasJust l.way (SomeBelow l.s (StandsAt (facts_in l.t) l.asked)) × HasJust l.together (SomeBelow l.s (GoesAt (facts_in l.t) l.asked))
