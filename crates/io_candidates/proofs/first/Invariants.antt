-- What the loops of `io_candidates::first` keep.
use Rattle.facts.proofs.Words.{ℕ}
use Rattle.table_read.proofs.{SoFar}
use Rattle.io_obstacles.specs.{Barring, Barred}
use Rattle.io_candidates.specs.{CandidateIn}
use Rattle.io_candidates.proofs.first.Given as goal

-- none of the searches made found a candidate
abbrev pub invariant-loop-most : goal.invariant-loop-most
invariant-loop-most l = SoFar 2 (λ m. (x : ℕ) → CandidateIn l.t (Barred l.search) m l.search.wanted.count l.search.wanted.step x → ⊥) l.most
    × Barring (Barred l.search) l.search.wanted.step l.known
