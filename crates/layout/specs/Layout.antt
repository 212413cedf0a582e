-- The layout of the table's bytes: the image of a set of facts. Assumes nothing.
use Rattle.std.specs.Prelude.{List, [], ◌∷◌, ◌++◌, Bool, true, false, ℕ, zero, suc, ◌+◌, ◌-◌, ◌*◌, ◌/◌, ◌%◌, length, replicate}
use Rattle.std.proofs.Math.Option.{Option, none, some}
use Rattle.std.proofs.Math.ListN.{get_elem?}
use Rattle.facts.specs.declared.Manner.{Manner}
use Rattle.facts.specs.declared.Manner.TheVariants.{Exclusive, TimeMultiplexed, DynamicLevel, DynamicPulse}
use Rattle.facts.specs.Table
use Rattle.facts.specs.Table.{Facts, Client, Level, Range, IoGrant, IrqGrant}

abbrev pub table_size : ℕ
table_size = 8192

-- the first byte of every table: the letter C. In the layout before this one the socket count stood there, 1 to 8.
abbrev pub layout_mark : ℕ
layout_mark = 67

-- The parts have places for so many clients and seats, of which fewer can be used. The handles have one place more, which stays zero, so that each has a
-- next one.
abbrev pub client_room : ℕ
client_room = 64

abbrev pub handle_room : ℕ
handle_room = client_room + 1

abbrev pub seat_room : ℕ
seat_room = 64

-- where the numbers of sockets, clients and ranges and the handles issued stand in the head
abbrev pub head_sockets : ℕ
head_sockets = 1

abbrev pub head_clients : ℕ
head_clients = 2

abbrev pub head_ranges : ℕ
head_ranges = 3

abbrev pub head_issued : ℕ
head_issued = 4

abbrev pub head_size : ℕ
head_size = 6

-- where a field stands in its record
abbrev pub level_reserved_at : ℕ
level_reserved_at = 1

abbrev pub range_count_at : ℕ
range_count_at = 2

abbrev pub range_reserved_at : ℕ
range_reserved_at = 6

abbrev pub io_base_at : ℕ
io_base_at = 2

abbrev pub io_count_at : ℕ
io_count_at = 4

abbrev pub io_lines_at : ℕ
io_lines_at = 5

abbrev pub io_shared_at : ℕ
io_shared_at = 6

abbrev pub io_spare_at : ℕ
io_spare_at = 7

abbrev pub irq_level_at : ℕ
irq_level_at = 2

abbrev pub irq_manner_at : ℕ
irq_manner_at = 3

-- the size of each part's records
abbrev pub card_size : ℕ
card_size = 1

abbrev pub level_size : ℕ
level_size = 2

abbrev pub range_size : ℕ
range_size = 7

abbrev pub handle_size : ℕ
handle_size = 2

abbrev pub attributes_size : ℕ
attributes_size = 1

abbrev pub events_size : ℕ
events_size = 2

abbrev pub io_size : ℕ
io_size = 11

abbrev pub irq_size : ℕ
irq_size = 4

abbrev pub spare_size : ℕ
spare_size = 112

abbrev pub mask_size : ℕ
mask_size = 2

-- a client's masks, side by side
abbrev pub masks_size : ℕ
masks_size = seat_room * mask_size

-- where each part begins: after the head and the parts before it
abbrev pub cards_at : ℕ
cards_at = head_size

abbrev pub levels_at : ℕ
levels_at = cards_at + Table.most_sockets * card_size

abbrev pub ranges_at : ℕ
ranges_at = levels_at + Table.all_levels * level_size

abbrev pub handles_at : ℕ
handles_at = ranges_at + Table.most_ranges * range_size

abbrev pub attributes_at : ℕ
attributes_at = handles_at + handle_room * handle_size

abbrev pub events_at : ℕ
events_at = attributes_at + client_room * attributes_size

abbrev pub ios_at : ℕ
ios_at = events_at + client_room * events_size

abbrev pub irqs_at : ℕ
irqs_at = ios_at + seat_room * io_size

abbrev pub spare_at : ℕ
spare_at = irqs_at + seat_room * irq_size

abbrev pub masks_at : ℕ
masks_at = spare_at + spare_size

-- what follows the masks of so many clients
abbrev pub rest_at : ℕ → ℕ
rest_at n = masks_at + n * masks_size

-- a mark is one byte, 0 or 1
abbrev pub mark : Bool → ℕ
mark false = 0
mark true = 1

-- numbers of two and of four bytes, little-endian
abbrev pub two : ℕ → List ℕ
two n = n % 256 ∷ n / 256 ∷ []

abbrev pub four : ℕ → List ℕ
four n = n % 256 ∷ n / 256 % 256 ∷ n / 65536 % 256 ∷ n / 16777216 ∷ []

-- n records, one after the other
unfoldable pub each : ℕ → (ℕ → List ℕ) → List ℕ
each zero f = []
each (suc n) f = each n f ++ f n

-- no mask is 0, a mask is one more than itself
abbrev pub mask_bytes : Option ℕ → List ℕ
mask_bytes none = two 0
mask_bytes (some m) = two (m + 1)

-- what a client is said by: its handle, its attributes, its event mask, and a mask for each seat; zero where there is no client
abbrev pub handle_bytes : Option Client → List ℕ
handle_bytes none = two 0
handle_bytes (some c) = two c.handle

abbrev pub attributes_bytes : Option Client → List ℕ
attributes_bytes none = 0 ∷ []
attributes_bytes (some c) = c.attributes ∷ []

abbrev pub events_bytes : Option Client → List ℕ
events_bytes none = two 0
events_bytes (some c) = two c.events

abbrev pub masks_bytes : Option Client → List ℕ
masks_bytes none = replicate masks_size 0
masks_bytes (some c) = each seat_room (λ s. mask_bytes (c.mask s))

abbrev pub level_bytes : Level → List ℕ
level_bytes v = mark v.managed ∷ mark v.reserved ∷ []

-- base, count, reserve mark; a record that is not used is zero
abbrev pub range_bytes : Option Range → List ℕ
range_bytes none = replicate range_size 0
range_bytes (some r) = two r.base ++ four r.count ++ mark r.reserved ∷ []

-- client, base, count, lines, shared mark, and four bytes where a second range will stand; no grant is zero
abbrev pub io_bytes : Option IoGrant → List ℕ
io_bytes none = replicate io_size 0
io_bytes (some g) = two g.client ++ two g.ports.base ++ g.ports.count ∷ g.ports.lines ∷ mark g.shared ∷ 0 ∷ 0 ∷ 0 ∷ 0 ∷ []

abbrev pub manner_byte_lem : Manner → ℕ
manner_byte_lem Exclusive = 0
manner_byte_lem TimeMultiplexed = 1
manner_byte_lem DynamicLevel = 2
manner_byte_lem DynamicPulse = 3

-- client, level, manner; no grant is zero
abbrev pub irq_bytes : Option IrqGrant → List ℕ
irq_bytes none = replicate irq_size 0
irq_bytes (some g) = two g.client ++ g.level ∷ manner_byte_lem g.manner ∷ []

-- the parts of the image
unfoldable pub head : Facts → List ℕ
head F = layout_mark ∷ F.sockets ∷ length F.clients ∷ length F.ranges ∷ two F.issued

unfoldable pub cards : Facts → List ℕ
cards F = each Table.most_sockets (λ s. mark (F.card s) ∷ [])

unfoldable pub levels : Facts → List ℕ
levels F = each Table.all_levels (λ l. level_bytes (F.level l))

unfoldable pub ranges : Facts → List ℕ
ranges F = each Table.most_ranges (λ i. range_bytes (get_elem? F.ranges i))

unfoldable pub handles : Facts → List ℕ
handles F = each handle_room (λ i. handle_bytes (get_elem? F.clients i))

unfoldable pub attributes : Facts → List ℕ
attributes F = each client_room (λ i. attributes_bytes (get_elem? F.clients i))

unfoldable pub events : Facts → List ℕ
events F = each client_room (λ i. events_bytes (get_elem? F.clients i))

unfoldable pub ios : Facts → List ℕ
ios F = each seat_room (λ s. io_bytes (F.io s))

unfoldable pub irqs : Facts → List ℕ
irqs F = each seat_room (λ s. irq_bytes (F.irq s))

unfoldable pub spare : List ℕ
spare = each spare_size (λ i. 0 ∷ [])

-- the masks of so many clients
unfoldable pub masks : ℕ → Facts → List ℕ
masks n F = each n (λ i. masks_bytes (get_elem? F.clients i))

-- what follows them in a table of so many bytes
unfoldable pub rest : ℕ → ℕ → List ℕ
rest n size = replicate (size - rest_at n) 0

-- the image in a table of so many bytes that has room for so many clients: what both sizes have in common stands in the same places
unfoldable pub image_of : ℕ → ℕ → Facts → List ℕ
image_of n size F =
    head F ++ (cards F ++ (levels F ++ (ranges F ++ (handles F ++ (attributes F ++ (events F ++ (ios F ++ (irqs F ++ (spare ++ (masks n F ++ rest n size))))))))))

abbrev pub image : Facts → List ℕ
image F = image_of Table.most_clients table_size F
