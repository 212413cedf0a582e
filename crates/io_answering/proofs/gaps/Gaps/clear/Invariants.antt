-- What the loops of `io_answering::gaps::Gaps::clear` keep.
use Rattle.facts.proofs.Words.{◌≤◌}
use Rattle.facts.specs.{Meet}
use Rattle.table_read.proofs.{Flawless}
use Rattle.io_answering.specs.{most_gaps, gap_at}
use Rattle.io_answering.proofs.gaps.Gaps.clear.Given as goal

abbrev pub invariant-loop-i : goal.invariant-loop-i
invariant-loop-i l = (l.i ≤ most_gaps) × Flawless (λ k. Meet l.fn.ports (gap_at l.self k) → ⊥) l.i l.some
