-- `caller::fresh` meets its contract: what cs_fresh promises is an event. Assumes nothing.
use Rattle.history.proofs.{entries}
use Rattle.caller.proofs.fresh.Goals as goal

pub returns : goal.returns
returns c =
    entries.of_fresh _ _ _ _ c.cs_fresh.ensures
