-- What the loops of `managed_ranges::place` keep.
use Rattle.facts.proofs.Words.{◌≤◌}
use Rattle.facts.specs.{most_ranges}
use Rattle.managed_ranges.proofs.{Down}
use Rattle.managed_ranges.proofs.place.Given as goal

abbrev pub invariant-loop-i : goal.invariant-loop-i
invariant-loop-i l = (l.i ≤ most_ranges) × Down l.t l.from l.i
