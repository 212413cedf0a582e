-- The words of masks against their limits, row by row. Assumes nothing.
use Rattle.std.specs.Prelude.{◌≡◌, List, ℕ, ◌+◌, ◌*◌, ◌≤◌, ◌<◌, length, get_or}
use Rattle.facts.specs.Table
use Rattle.facts.specs.Packets.{word}
use Rattle.layout.specs.Layout
use Rattle.layout.specs.Reading.{clients_in, masks_place}

-- the limits: 4,096 for as many seats as there can be sockets, then 0
pub record StepsAre (steps : List ℕ) : Type 0 where
  pub room : length steps ≡ Table.most_sockets + Layout.seat_room
  pub first : (k : ℕ) → k < Table.most_sockets → get_or steps k 0 ≡ Table.all_events
  pub past : (k : ℕ) → Table.most_sockets ≤ k → k < length steps → get_or steps k 0 ≡ 0

-- no word of the row at a place is over its limit, the first of which is the step from
abbrev pub RowUnder : List ℕ → ℕ → List ℕ → ℕ → Type 0
RowUnder b at steps from = (k : ℕ) → k < Layout.seat_room → word b (at + k * Layout.mask_size) ≤ get_or steps (from + k) 0

-- no word of any client's row is
abbrev pub RowsUnder : List ℕ → List ℕ → ℕ → Type 0
RowsUnder b steps from = (i : ℕ) → i < clients_in b → RowUnder b (masks_place i) steps from
