-- `managed_search::search_from` meets its contract: the range that the search begins at is the first, or starts at or before the port.
-- Assumes nothing.
use Rattle.facts.proofs.Words.{arith}
use Rattle.managed_search.proofs.{skipped_to}
use Rattle.managed_search.proofs.search_from.Goals as goal

pub loop-i-preserved : goal.loop-i-preserved
loop-i-preserved c = skipped_to _ _ _ c.requires.2 (omega arith) (omega arith)

pub returns-else-p-word : goal.returns-else-p-word
returns-else-p-word c = skipped_to _ _ _ c.requires.2 (omega arith) (omega arith)
