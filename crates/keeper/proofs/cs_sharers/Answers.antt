-- `keeper::cs_sharers` meets its contract: the table is not well formed, or the rule of sharers holds.
-- Assumes nothing.
use Rattle.keeper.proofs.{sharers_unformed}
use Rattle.keeper.proofs.cs_sharers.Goals as goal

pub returns-in_default : goal.returns-in_default
returns-in_default c = sharers_unformed c.args.table.now c.in_default.ensures.1 c.args.level c.from.result c.from.ensures
