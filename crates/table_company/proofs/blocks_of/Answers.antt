-- `table_company::blocks_of` meets its contract: a card that decodes few lines may answer in any block, and another in those of its own ports.
-- Assumes nothing.
use Rattle.facts.proofs.Words.{arith}
use Rattle.table_read.proofs.{all_bits}
use Rattle.table_company.proofs.{own_blocks}
use Rattle.table_company.proofs.blocks_of.Goals as goal

pub returns-then-ports-lt-BLOCK_LINES : goal.returns-then-ports-lt-BLOCK_LINES
returns-then-ports-lt-BLOCK_LINES c k a = all_bits 64 k (omega (arith, a.block))

pub returns : goal.returns
returns c = own_blocks _ _ c.if-ports-lt-BLOCK_LINES.false c.blocks_within.ensures
