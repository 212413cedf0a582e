-- `keeper::card` meets its contract: the table is not well formed, or the rule of card in and card out holds.
-- Assumes nothing.
use Rattle.keeper.proofs.{card_unformed}
use Rattle.keeper.proofs.card.Goals as goal

pub returns-in_default : goal.returns-in_default
returns-in_default c = card_unformed c.args.table.now c.in_default.ensures.1 c.args.present c.args.socket.0
