-- `io_obstacles::stretches::Stretch::ahead` meets its contract: a base is as far from the stretch's end as it is short of the width.
-- Assumes nothing.
use Rattle.facts.proofs.Words.{◌+◌, ◌-◌, arith}
use Rattle.io_obstacles.specs.{around}
use Rattle.io_obstacles.proofs.{masked, leaps}
use Rattle.io_obstacles.proofs.stretches.Stretch.ahead.Goals as goal

pub returns : goal.returns
returns c =
    let s = c.args.self in
    let fits = c.requires.0 in
    leaps s.start s.ones s.width c.args.base _ _ fits.start fits.width (masked (c.args.base + around - s.start) s.ones fits.period) (omega arith)
