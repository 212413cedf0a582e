-- What the loops of `table_ios::ranges::range_from` keep.
use Rattle.facts.proofs.Words.{◌+◌, ◌≤◌}
use Rattle.facts.specs.{most_ranges}
use Rattle.table_ios.proofs.ranges.range_from.Given as goal

abbrev pub invariant-loop-many : goal.invariant-loop-many
invariant-loop-many l = l.low + l.many ≤ most_ranges

abbrev pub decreases-loop-many : goal.decreases-loop-many
decreases-loop-many l = l.many
