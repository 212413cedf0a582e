-- What the loops of `io_candidates::some_marked` keep.
use Rattle.facts.proofs.Words.{◌≤◌}
use Rattle.table_read.proofs.{SoFar}
use Rattle.io_candidates.specs.{reserve_mark}
use Rattle.io_candidates.proofs.some_marked.Given as goal

abbrev pub invariant-loop-i : goal.invariant-loop-i
invariant-loop-i l = SoFar l.ranges (λ k. l.mark ≤ reserve_mark l.t k → ⊥) l.i
