-- Which bytes are the image of a well-formed set, said of the bytes: what the code looks at. Assumes nothing.
use Rattle.std.specs.Prelude.{◌≡◌, ◌⊎◌, ◌≢◌, List, ℕ, zero, suc, ◌+◌, ◌^◌, ◌≤◌, ◌<◌, length}
use Rattle.facts.specs.Table
use Rattle.facts.specs.Table.{Facts, Seat, socket_at}
use Rattle.facts.specs.Packets.{byte, word, long}
use Rattle.facts.specs.Ports.{Within, Answers}
use Rattle.facts.specs.WellFormed.{WellFormed, AttributesAllowed, EventsAllowed, IoCompany, IrqCompany}
use Rattle.layout.specs.Layout
use Rattle.layout.specs.Reading.{sockets_in, clients_in, ranges_in, issued_in, level_place, range_place, handle_place, attributes_place, events_place}
use Rattle.layout.specs.Reading.{masks_place, mask_place, handle_in, io_place_lem, irq_place_lem, ports_in, io_in, irq_in}

-- the bytes are the image of some well-formed set
pub record Accepted (b : List ℕ) : Type 0 where
  pub facts : Facts
  pub formed : WellFormed facts
  pub is : Layout.image facts ≡ b

-- the bytes from one place up to another are zero
abbrev pub Zero : List ℕ → ℕ → ℕ → Type 0
Zero b from to = (i : ℕ) → from ≤ i → i < to → byte b i ≡ 0

-- the layout's mark; "socket count 1 to 8 .. up to 16 live clients .. up to 32 managed I/O ranges"
pub record CountsSound (b : List ℕ) : Type 0 where
  pub mark : byte b 0 ≡ Layout.layout_mark
  pub sockets_least : 1 ≤ sockets_in b
  pub sockets_most : sockets_in b ≤ Table.most_sockets
  pub clients_most : clients_in b ≤ Table.most_clients
  pub ranges_most : ranges_in b ≤ Table.most_ranges

pub record CardSound (b : List ℕ) (s : ℕ) : Type 0 where
  pub mark : byte b (Layout.cards_at + s) ≤ 1
  pub socket : byte b (Layout.cards_at + s) ≡ 1 → s < sockets_in b

pub record LevelSound (b : List ℕ) (l : ℕ) : Type 0 where
  pub managed : byte b (level_place l) ≤ 1
  pub reserved : byte b (level_place l + Layout.level_reserved_at) ≤ byte b (level_place l)

-- the handle of the client listed before the ith, or 0
abbrev pub handle_before : List ℕ → ℕ → ℕ
handle_before b zero = 0
handle_before b (suc i) = handle_in b i

-- none, or one more than the events of a mask for a socket below the count
abbrev pub MaskSound : List ℕ → ℕ → Seat → Type 0
MaskSound b i s = (word b (mask_place i s) ≡ 0) ⊎ ((word b (mask_place i s) ≤ Table.all_events) × (socket_at s < sockets_in b))

-- the client listed in the place i has a mask at the seat s
abbrev pub MaskUsed : List ℕ → ℕ → Seat → Type 0
MaskUsed b i s = word b (mask_place i s) ≢ 0

-- the ith client's numbers, whose handle is over low
pub record ClientSound (b : List ℕ) (low i : ℕ) : Type 0 where
  pub over : low < handle_in b i
  pub issued : handle_in b i ≤ issued_in b
  pub attributes : AttributesAllowed (byte b (attributes_place i))
  pub events : EventsAllowed (word b (events_place i))

-- every client, each handle over the one before it
abbrev pub ClientsSound : List ℕ → Type 0
ClientsSound b = (i : ℕ) → i < clients_in b → ClientSound b (handle_before b i) i

-- past the last client the rows are zero
pub record ClientsEnd (b : List ℕ) : Type 0 where
  pub handles : Zero b (handle_place (clients_in b)) Layout.attributes_at
  pub attributes : Zero b (attributes_place (clients_in b)) Layout.events_at
  pub events : Zero b (events_place (clients_in b)) Layout.ios_at

-- each mask of every client
abbrev pub MasksSound : List ℕ → Type 0
MasksSound b = (i : ℕ) → i < clients_in b → (s : Seat) → s < Layout.seat_room → MaskSound b i s

abbrev pub range_base : List ℕ → ℕ → ℕ
range_base b i = word b (range_place i)

abbrev pub range_count : List ℕ → ℕ → ℕ
range_count b i = long b (range_place i + Layout.range_count_at)

-- where the range listed before the ith ends, or 0
abbrev pub end_before_lem : List ℕ → ℕ → ℕ
end_before_lem b zero = 0
end_before_lem b (suc i) = range_base b i + range_count b i

-- the ith range's record, which starts at or past low
pub record RangeSound (b : List ℕ) (low i : ℕ) : Type 0 where
  pub from : low ≤ range_base b i
  pub port : 1 ≤ range_count b i
  pub within : range_base b i + range_count b i ≤ Table.all_ports
  pub mark : byte b (range_place i + Layout.range_reserved_at) ≤ 1

-- every range's record, each at or past the end of the one before it
abbrev pub RangesSound : List ℕ → Type 0
RangesSound b = (i : ℕ) → i < ranges_in b → RangeSound b (end_before_lem b i) i

-- h is the handle of one of the clients listed, and p a port of one of the ranges
abbrev pub LiveIn : List ℕ → ℕ → Type 0
LiveIn b h = (i : ℕ) × (i < clients_in b) × (handle_in b i ≡ h)

abbrev pub ManagedIn : List ℕ → ℕ → Type 0
ManagedIn b p = (i : ℕ) × (i < ranges_in b) × Within p (range_base b i) (range_count b i)

-- the record of the I/O grant at the seat s
pub record IoSound (b : List ℕ) (s : Seat) : Type 0 where
  pub client : LiveIn b (word b (io_place_lem s))
  pub socket : socket_at s < sockets_in b
  pub base : 1 ≤ word b (io_place_lem s + Layout.io_base_at)
  pub port : 1 ≤ byte b (io_place_lem s + Layout.io_count_at)
  pub line : 1 ≤ byte b (io_place_lem s + Layout.io_lines_at)
  pub lines : byte b (io_place_lem s + Layout.io_lines_at) ≤ Table.most_lines
  pub decoded : byte b (io_place_lem s + Layout.io_count_at) ≤ 2 ^ byte b (io_place_lem s + Layout.io_lines_at)
  pub managed : (p : ℕ) → Within p (word b (io_place_lem s + Layout.io_base_at)) (byte b (io_place_lem s + Layout.io_count_at)) → ManagedIn b p
  pub answers : (p : ℕ) → Answers (ports_in b (io_place_lem s)) p → ManagedIn b p
  pub mark : byte b (io_place_lem s + Layout.io_shared_at) ≤ 1
  pub spare : Zero b (io_place_lem s + Layout.io_spare_at) (io_place_lem s + Layout.io_size)

-- an I/O grant stands at the seat s
abbrev pub IoUsed : List ℕ → Seat → Type 0
IoUsed b s = word b (io_place_lem s) ≢ 0

abbrev pub IoPlaceSound : List ℕ → Seat → Type 0
IoPlaceSound b s = Zero b (io_place_lem s) (io_place_lem s + Layout.io_size) ⊎ (IoUsed b s × IoSound b s)

-- the record of the IRQ grant at the seat s
pub record IrqSound (b : List ℕ) (s : Seat) : Type 0 where
  pub client : LiveIn b (word b (irq_place_lem s))
  pub socket : socket_at s < sockets_in b
  pub level : byte b (irq_place_lem s + Layout.irq_level_at) < Table.all_levels
  pub managed : byte b (level_place (byte b (irq_place_lem s + Layout.irq_level_at))) ≡ 1
  pub manner : byte b (irq_place_lem s + Layout.irq_manner_at) ≤ 3

abbrev pub IrqUsed : List ℕ → Seat → Type 0
IrqUsed b s = word b (irq_place_lem s) ≢ 0

abbrev pub IrqPlaceSound : List ℕ → Seat → Type 0
IrqPlaceSound b s = Zero b (irq_place_lem s) (irq_place_lem s + Layout.irq_size) ⊎ (IrqUsed b s × IrqSound b s)

-- the grants of two seats keep company as demand 3 allows
abbrev pub IoPairSound : List ℕ → Seat → Seat → Type 0
IoPairSound b s t = IoUsed b s → IoUsed b t → IoCompany (io_in b s) (io_in b t)

abbrev pub IrqPairSound : List ℕ → Seat → Seat → Type 0
IrqPairSound b s t = IrqUsed b s → IrqUsed b t → IrqCompany (irq_in b s) (irq_in b t)

-- in a table of so many bytes that has room for so many clients
pub record SoundOf (most bytes : ℕ) (b : List ℕ) : Type 0 where
  pub size : length b ≡ bytes
  pub marked : byte b 0 ≡ Layout.layout_mark
  pub sockets_least : 1 ≤ sockets_in b
  pub sockets_most : sockets_in b ≤ Table.most_sockets
  pub cards : (s : ℕ) → s < Table.most_sockets → CardSound b s
  pub levels : (l : ℕ) → l < Table.all_levels → LevelSound b l
  pub ranges_most : ranges_in b ≤ Table.most_ranges
  pub ranges : RangesSound b
  pub ranges_end : Zero b (range_place (ranges_in b)) Layout.handles_at
  pub clients_most : clients_in b ≤ most
  pub clients : ClientsSound b
  pub clients_end : ClientsEnd b
  pub masks : MasksSound b
  pub masks_end : Zero b (masks_place (clients_in b)) bytes
  pub ios : (s : Seat) → s < Layout.seat_room → IoPlaceSound b s
  pub irqs : (s : Seat) → s < Layout.seat_room → IrqPlaceSound b s
  pub io_company : (s t : Seat) → s < Layout.seat_room → t < s → IoPairSound b s t
  pub irq_company : (s t : Seat) → s < Layout.seat_room → t < s → IrqPairSound b s t
  pub spare : Zero b Layout.spare_at Layout.masks_at

abbrev pub Sound : List ℕ → Type 0
Sound b = SoundOf Table.most_clients Layout.table_size b
