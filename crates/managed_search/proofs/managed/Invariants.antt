-- What the loops of `managed_search::managed` keep.
use Rattle.facts.proofs.Words.{◌≤◌}
use Rattle.managed_search.proofs.{Passed}
use Rattle.managed_search.proofs.managed.Given as goal

abbrev pub invariant-loop-i : goal.invariant-loop-i
invariant-loop-i l = (l.i ≤ l.ranges) × Passed l.t l.base l.p l.i
