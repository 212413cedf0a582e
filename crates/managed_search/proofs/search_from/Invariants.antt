-- What the loops of `managed_search::search_from` keep.
use Rattle.managed_search.specs.{Skipped}
use Rattle.managed_search.proofs.search_from.Given as goal

abbrev pub invariant-loop-i : goal.invariant-loop-i
invariant-loop-i l = Skipped l.t l.p l.from
