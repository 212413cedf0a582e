-- What the loops of `client_record::listed` keep.
use Rattle.facts.proofs.Words.{◌≡◌, ◌≤◌}
use Rattle.layout.specs.{handle_in}
use Rattle.table_read.proofs.Some.{Some}
use Rattle.client_record.specs.Finding.{Tells}
use Rattle.client_record.proofs.listed.Given as goal

abbrev pub invariant-loop-i : goal.invariant-loop-i
invariant-loop-i l = (l.i ≤ l.all) × Tells l.some (Some l.i (λ k. handle_in l.t k ≡ l.wanted))
