-- What the loops of `table_read::eights_zero` keep.
use Rattle.facts.proofs.Words.{◌+◌, ◌*◌, ◌≤◌}
use Rattle.table_read.proofs.{Gathered}
use Rattle.table_read.proofs.eights_zero.Given as goal

abbrev pub invariant-loop-i : goal.invariant-loop-i
invariant-loop-i l = (l.i ≤ l.eights) × Gathered l.t l.from (l.from + 8 * l.i) l.all
