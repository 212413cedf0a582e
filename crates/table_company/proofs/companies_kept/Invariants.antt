-- What the loops of `table_company::companies_kept` keep.
use Rattle.layout.specs.{IoPairSound}
use Rattle.table_read.proofs.{SoFar}
use Rattle.seats.specs.{CompanySound}
use Rattle.table_company.specs.{RowsAre}
use Rattle.table_company.proofs.companies_kept.Given as goal

abbrev pub invariant-loop-s : goal.invariant-loop-s
invariant-loop-s l = SoFar l.sockets (CompanySound (IoPairSound l.t)) l.s × RowsAre l.t l.rows l.s
