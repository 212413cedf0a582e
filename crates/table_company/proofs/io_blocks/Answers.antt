-- `table_company::io_blocks` meets its contract: there is no grant, or its blocks are those of its ports.
-- Assumes nothing.
use Rattle.facts.proofs.Words.{arith}
use Rattle.std.specs.Prelude.{Some}
use Rattle.seats.specs.{HeldIs}
use Rattle.seats.proofs.{held_fits, held_port}
use Rattle.table_company.proofs.io_blocks.Goals as goal

pub blocks_of-requires : goal.blocks_of-requires
blocks_of-requires c =
    let there : let a = c.args in HeldIs (a.t.now) a.s.number (Some c.in-Some.held) = c.in-Some.ensures in
    let fits = held_fits _ _ _ there (λ i. omega (arith, c.type_inv.t i)) in
    (fits.0, held_port _ _ _ there c.requires.1, fits.1)
