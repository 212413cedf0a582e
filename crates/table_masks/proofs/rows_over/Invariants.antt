-- What the loops of `table_masks::rows_over` keep.
use Rattle.facts.proofs.Words.{◌≤◌}
use Rattle.layout.specs.{masks_place}
use Rattle.table_masks.specs.{RowUnder}
use Rattle.table_read.proofs.{Flawless}
use Rattle.table_masks.proofs.rows_over.Given as goal

abbrev pub invariant-loop-i : goal.invariant-loop-i
invariant-loop-i l = (l.over ≤ l.i) × Flawless (λ k. RowUnder l.t (masks_place k) l.steps l.from) l.i l.over
