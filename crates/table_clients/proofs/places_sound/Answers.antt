-- `table_clients::places_sound` meets its contract: what is wrong is 0 exactly if the places passed are sound.
-- Assumes nothing.
use Rattle.facts.proofs.Words.{arith}
use Rattle.table_read.proofs.{flawless_more}
use Rattle.table_clients.proofs.places_sound.Goals as goal

pub loop-i-preserved : goal.loop-i-preserved
loop-i-preserved c =
    (omega arith, flawless_more _ c.loop-i.invariant.1 c.place_flaw-flaws.ensures)
