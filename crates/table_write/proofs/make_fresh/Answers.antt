-- `table_write::make_fresh` meets its contract: zeros, the mark and the socket count show the fresh set.
-- Assumes nothing.
use Rattle.facts.proofs.Words.{length}
use Rattle.table_write.proofs.{fresh_image}
use Rattle.table_write.proofs.make_fresh.Goals as goal

pub returns : goal.returns
returns c = fresh_image _ c.args.sockets (length c.args.t.now) c.requires (c.fill.ensures.after (λ y e. e))
