-- What the loops of `table_write::make_room` keep.
use Rattle.std.specs.Prelude.{◌+◌, ◌-◌, ◌≤◌}
use Rattle.std.specs.List.{CopiedTo, SameBelow, SameFrom}
use Rattle.table_write.proofs.make_room.Given as goal

abbrev pub invariant-loop-i : goal.invariant-loop-i
invariant-loop-i l = record {
  from : l.at ≤ l.i;
  moved : CopiedTo l.initial.t l.t l.i (l.i + l.bytes) (l.end - l.bytes - l.i);
  below : SameBelow l.initial.t l.t (l.i + l.bytes);
  past : SameFrom l.initial.t l.t l.end;
}
