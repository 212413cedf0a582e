-- What the loops of `table_lists::levels::levels_sound` keep.
use Rattle.facts.proofs.Words.{◌≤◌}
use Rattle.facts.specs.{all_levels}
use Rattle.layout.specs.{LevelSound}
use Rattle.table_read.proofs.{Flawless}
use Rattle.table_lists.proofs.levels.levels_sound.Given as goal

abbrev pub invariant-loop-l : goal.invariant-loop-l
invariant-loop-l l = (l.l ≤ all_levels) × Flawless (LevelSound l.t) l.l l.flaws
