-- `table_company::blocks_within` meets its contract: the block of each port is so far past that of the first.
-- Assumes nothing.
use Rattle.facts.proofs.Words.{◌/◌, ◌%◌, ◌+◌, ◌-◌, ◌^◌, ◌<◌, arith, ones_lt, shl_exact}
use Rattle.table_company.specs.{block_of}
use Rattle.table_read.proofs.{all_bits}
use Rattle.table_company.proofs.{blocks_within_lem}
use Rattle.table_company.proofs.blocks_within.Goals as goal

pub returns-then-first-blocks-gt-BLOCKS : goal.returns-then-first-blocks-gt-BLOCKS
returns-then-first-blocks-gt-BLOCKS c p w = all_bits 64 (block_of p) (omega arith)

pub returns : goal.returns
returns c =
    let a = c.args in
    let blocks = (a.base % 8 + a.count - 1) / 8 + 1 in
    let fits = c.if-first-blocks-gt-BLOCKS.false in
    let few : 2 ^ blocks - 1 < 2 ^ blocks = ones_lt blocks in
    blocks_within_lem a.base a.count _ (rw c.first_of.ensures (shl_exact blocks (a.base / 8 % 64) 64 few (omega (arith, fits)))) (omega (arith, fits))
