-- What the loops of `table_company::Rows::apart` keep.
use Rattle.facts.proofs.Words.{◌≡◌, ◌≤◌}
use Rattle.table_read.proofs.{Flawless}
use Rattle.table_company.specs.{numbers_at, reached}
use Rattle.table_company.proofs.Rows.apart.Given as goal

abbrev pub invariant-loop-u : goal.invariant-loop-u
invariant-loop-u l = (l.u ≤ l.number) × Flawless (λ k. reached (numbers_at l.self l.number) (numbers_at l.self k) ≡ 0) l.u l.some
