-- `io_obstacles::rows::Bar::ahead` meets its contract: the difference that wraps around is how far the base lies behind the start.
-- Assumes nothing.
use Rattle.facts.proofs.Words.{arith}
use Rattle.io_obstacles.proofs.{leaps_bar}
use Rattle.io_obstacles.proofs.rows.Bar.ahead.Goals as goal

pub returns-then-self-behind : goal.returns-then-self-behind
returns-then-self-behind c = leaps_bar c.args.self _ _ _ c.requires (omega arith) (omega arith) (omega arith) (omega arith)

pub returns : goal.returns
returns c = leaps_bar c.args.self _ _ _ c.requires (omega arith) (omega arith) (omega arith) (omega arith)
