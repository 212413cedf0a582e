-- What the loops of `client_record::search` keep.
use Rattle.facts.proofs.Words.{◌≡◌}
use Rattle.layout.specs.{handle_in}
use Rattle.table_read.proofs.{SoFar}
use Rattle.client_record.proofs.search.Given as goal

abbrev pub invariant-loop-i : goal.invariant-loop-i
invariant-loop-i l = SoFar l.clients (λ k. handle_in l.t k ≡ l.h.0 → ⊥) l.i
