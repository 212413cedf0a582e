-- What the loops of `io_bars::grant_bars` keep.
use Rattle.facts.proofs.Words.{ℕ, ◌<◌}
use Rattle.io_obstacles.specs.{bar_at}
use Rattle.io_bars.proofs.{OfSeat}
use Rattle.io_bars.proofs.grant_bars.Given as goal

abbrev pub invariant-loop-s : goal.invariant-loop-s
invariant-loop-s l = (s : ℕ) → s < l.s → OfSeat l.t l.count l.lines s (bar_at l.bars s)
