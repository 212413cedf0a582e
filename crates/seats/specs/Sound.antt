-- What stands at the seats: that each record is sound, and that its grant keeps company with those at the seats below it. Assumes nothing.
use Rattle.std.specs.Prelude.{List, ℕ, ◌<◌}
use Rattle.facts.specs.Table
use Rattle.facts.specs.Table.{Seat}
use Rattle.layout.specs.Sound.{IoPlaceSound, IrqPlaceSound, IoPairSound, IrqPairSound}

-- the records of the first n seats
abbrev pub PlacesSound : (Seat → Type 0) → ℕ → Type 0
PlacesSound Place n = (s : Seat) → s < n → Place s

-- the grant at a seat, and that at each below it
abbrev pub CompanySound : (Seat → Seat → Type 0) → Seat → Type 0
CompanySound Pair s = (t : Seat) → t < s → Pair s t

-- the record of the seat s, whose grant keeps company with those at the seats below it
pub record SeatSound (Place : Seat → Type 0) (Pair : Seat → Seat → Type 0) (s : Seat) : Type 0 where
  pub place : Place s
  pub company : CompanySound Pair s

abbrev pub IosSound : List ℕ → Type 0
IosSound b = (s : Seat) → s < Table.most_seats → SeatSound (IoPlaceSound b) (IoPairSound b) s

abbrev pub IrqsSound : List ℕ → Type 0
IrqsSound b = (s : Seat) → s < Table.most_seats → SeatSound (IrqPlaceSound b) (IrqPairSound b) s
