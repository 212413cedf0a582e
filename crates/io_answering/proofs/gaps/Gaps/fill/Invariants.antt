-- What the loops of `io_answering::gaps::Gaps::fill` keep.
use Rattle.io_answering.proofs.Filling.{Filling}
use Rattle.io_answering.proofs.gaps.Gaps.fill.Given as goal

abbrev pub invariant-loop-i : goal.invariant-loop-i
invariant-loop-i l = Filling l.t l.self l.end l.i
