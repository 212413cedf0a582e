-- What the loops of `io_bars::gap_bars` keep.
use Rattle.facts.proofs.Words.{ℕ, ◌<◌}
use Rattle.io_obstacles.specs.{bar_at}
use Rattle.io_bars.proofs.{OfGap}
use Rattle.io_bars.proofs.gap_bars.Given as goal

abbrev pub invariant-loop-i : goal.invariant-loop-i
invariant-loop-i l = (i : ℕ) → i < l.i → OfGap l.gaps l.count l.lines i (bar_at l.bars i)
