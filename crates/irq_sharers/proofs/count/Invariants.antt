-- What the loops of `irq_sharers::count` keep.
use Rattle.facts.proofs.Words.{◌≡◌, ◌≤◌}
use Rattle.facts.specs.{sharers_below}
use Rattle.layout.specs.{facts_in}
use Rattle.irq_sharers.proofs.count.Given as goal

abbrev pub invariant-loop-s : goal.invariant-loop-s
invariant-loop-s l = (l.s ≤ l.sockets) × (l.n ≡ sharers_below (facts_in l.t) l.level l.s) × (l.n ≤ l.s)
