-- `io_obstacles::up` meets its contract: what is left of a number past the first multiple is its remainder.
-- Assumes nothing.
use Rattle.io_obstacles.proofs.{rounded}
use Rattle.io_obstacles.proofs.up.Goals as goal

pub returns : goal.returns
returns c =
    rounded c.args.from c.args.step c.requires.1
