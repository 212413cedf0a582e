-- `table_clients::type_flaw` meets its contract: less by one, one bit has none in common with itself.
-- Assumes nothing.
use Rattle.facts.proofs.Words.{◌≡◌, ◌+◌, ◌-◌, arith}
use Rattle.table_clients.proofs.{type_says}
use Rattle.table_clients.proofs.type_flaw.Goals as goal

pub returns : goal.returns
returns c =
    let k = c.args.kind - 1 in
    let one_more : k + 1 ≡ c.args.kind = omega arith in
    rw one_more at (type_says k (omega arith))
