-- `irq_sharers::of_level` meets its contract: the level is one of a table's, or not.
-- Assumes nothing.
use Rattle.facts.proofs.Words.{arith}
use Rattle.layout.proofs.{size_in, sockets_in_lem}
use Rattle.irq_sharers.proofs.{sharers_done}
use Rattle.irq_sharers.proofs.of_level.Goals as goal

pub count-requires : goal.count-requires
count-requires c =
    let b = c.args.t.now in
    (size_in b c.requires, omega (arith, sockets_in_lem b c.requires, c.requires.formed.sockets_most))

pub returns : goal.returns
returns c =
    let level = c.in_ok-l.ensures in
    (c.requires, sharers_done c.args.t.now c.requires c.args.level c.count.result level.1 (rw level.0 at c.count.ensures.0))
