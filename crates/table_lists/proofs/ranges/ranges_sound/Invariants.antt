-- What the loops of `table_lists::ranges::ranges_sound` keep.
use Rattle.table_lists.proofs.{Passed}
use Rattle.table_lists.proofs.ranges.ranges_sound.Given as goal

abbrev pub invariant-loop-i : goal.invariant-loop-i
invariant-loop-i l = Passed l.t l.low l.flaws l.i
