-- What the loops of `table_clients::places_sound` keep.
use Rattle.facts.proofs.Words.{◌≤◌}
use Rattle.facts.specs.{most_clients}
use Rattle.table_clients.specs.{PlaceSoundIn}
use Rattle.table_read.proofs.{Flawless}
use Rattle.table_clients.proofs.places_sound.Given as goal

abbrev pub invariant-loop-i : goal.invariant-loop-i
invariant-loop-i l = (l.i ≤ most_clients) × Flawless (PlaceSoundIn l.t) l.i l.flaws
