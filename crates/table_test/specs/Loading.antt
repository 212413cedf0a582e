-- What the parts of the test of a table's bytes say of them. Assumes nothing.
use Rattle.std.specs.Prelude.{List, ℕ}
use Rattle.layout.specs.Layout.{handles_at, table_size}
use Rattle.layout.specs.Reading.{clients_in, ranges_in, masks_place, range_place}
use Rattle.layout.specs.Sound.{Zero, CountsSound, RangesSound, MasksSound}
use Rattle.table_clients.specs.{ClientsListed}
use Rattle.table_lists.specs.{LevelsSound, SeatsEnd}

-- the head, the levels, the clients' numbers and the ranges
pub record ListsSound (b : List ℕ) : Type 0 where
  pub counts : CountsSound b
  pub levels : LevelsSound b
  pub clients : ClientsListed b
  pub ranges : RangesSound b

-- the masks, and what no range, no seat and no client uses
pub record RestSound (b : List ℕ) : Type 0 where
  pub ranges_end : Zero b (range_place (ranges_in b)) handles_at
  pub seats_end : SeatsEnd b
  pub masks : MasksSound b
  pub masks_end : Zero b (masks_place (clients_in b)) table_size
