-- `table_ios::lines_at` meets its contract: there is no grant, or its lines are read.
-- Assumes nothing.
use Rattle.seats.proofs.{lines_held}
use Rattle.table_ios.proofs.lines_at.Goals as goal

pub returns : goal.returns
returns c = λ u. lines_held _ _ _ c.in-Some.ensures
