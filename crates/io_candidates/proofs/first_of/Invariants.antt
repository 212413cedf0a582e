-- What the loops of `io_candidates::first_of` keep.
use Rattle.io_obstacles.specs.{Barring, Barred}
use Rattle.table_read.proofs.{SoFar}
use Rattle.io_candidates.proofs.{NoneIn}
use Rattle.io_candidates.proofs.first_of.Given as goal

abbrev pub invariant-loop-i : goal.invariant-loop-i
invariant-loop-i l = SoFar l.ranges (NoneIn l.t (Barred l.search) l.most l.search.wanted.count l.search.wanted.step) l.i
    × Barring (Barred l.search) l.search.wanted.step l.known
