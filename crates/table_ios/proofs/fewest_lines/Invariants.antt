-- What the loops of `table_ios::fewest_lines` keep.
use Rattle.facts.proofs.Words.{◌+◌, ◌≤◌}
use Rattle.facts.specs.{byte}
use Rattle.layout.specs.{io_place_lem, IoUsed, io_lines_at}
use Rattle.table_read.proofs.{All}
use Rattle.table_ios.proofs.fewest_lines.Given as goal

abbrev pub invariant-loop-s : goal.invariant-loop-s
invariant-loop-s l = All l.s (λ i. IoUsed l.t i → l.fewest ≤ byte l.t (io_place_lem i + io_lines_at))
