-- What the loops of `table_company::all_shared` keep.
use Rattle.table_read.proofs.{SoFar}
use Rattle.table_company.specs.{SharedAt}
use Rattle.table_company.proofs.all_shared.Given as goal

abbrev pub invariant-loop-s : goal.invariant-loop-s
invariant-loop-s l = SoFar l.sockets (SharedAt l.t) l.s
