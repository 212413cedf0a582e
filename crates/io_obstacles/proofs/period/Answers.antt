-- `io_obstacles::period` meets its contract: the larger of two powers of two.
-- Assumes nothing.
use Rattle.io_obstacles.proofs.{period_is}
use Rattle.io_obstacles.proofs.period.Goals as goal

pub returns : goal.returns
returns c = period_is c.args.limit c.args.step c.max.result c.requires.0 c.requires.1 c.max.ensures
