-- The facts read off a table's bytes, whatever the bytes. Assumes nothing.
use Rattle.std.specs.Prelude.{List, [], ◌∷◌, ◌++◌, Bool, cond, false, ℕ, zero, suc, ◌+◌, ◌*◌, ◌-◌, eqb, ltb}
use Rattle.std.proofs.Math.Option.{Option, none, some}
use Rattle.facts.specs.declared.Manner.{Manner}
use Rattle.facts.specs.declared.Manner.TheVariants.{Exclusive, TimeMultiplexed, DynamicLevel, DynamicPulse}
use Rattle.facts.specs.Table
use Rattle.facts.specs.Table.{Facts, Seat, Client, Level, Range, IoGrant, IrqGrant}
use Rattle.facts.specs.declared.Ports.{Ports}
use Rattle.facts.specs.Packets.{byte, word, long}
use Rattle.layout.specs.Layout

-- the first n of what f gives, in order
unfoldable pub up_to {ℓ} : {A : Type ℓ} → ℕ → (ℕ → A) → List A
up_to zero f = []
up_to (suc n) f = up_to n f ++ (f n ∷ [])

-- what f says below n, and other past it
abbrev pub below {ℓ} : {A : Type ℓ} → ℕ → A → (ℕ → A) → ℕ → A
below n other f i = cond (ltb i n) (f i) other

-- a byte that is 1 is a mark
abbrev pub marked : ℕ → Bool
marked x = eqb x 1

abbrev pub sockets_in : List ℕ → ℕ
sockets_in b = byte b Layout.head_sockets

abbrev pub clients_in : List ℕ → ℕ
clients_in b = byte b Layout.head_clients

abbrev pub ranges_in : List ℕ → ℕ
ranges_in b = byte b Layout.head_ranges

abbrev pub issued_in : List ℕ → ℕ
issued_in b = word b Layout.head_issued

-- where a record begins
abbrev pub level_place : ℕ → ℕ
level_place l = Layout.levels_at + l * Layout.level_size

abbrev pub range_place : ℕ → ℕ
range_place i = Layout.ranges_at + i * Layout.range_size

abbrev pub handle_place : ℕ → ℕ
handle_place i = Layout.handles_at + i * Layout.handle_size

abbrev pub attributes_place : ℕ → ℕ
attributes_place i = Layout.attributes_at + i * Layout.attributes_size

abbrev pub events_place : ℕ → ℕ
events_place i = Layout.events_at + i * Layout.events_size

abbrev pub io_place_lem : Seat → ℕ
io_place_lem s = Layout.ios_at + s * Layout.io_size

abbrev pub irq_place_lem : Seat → ℕ
irq_place_lem s = Layout.irqs_at + s * Layout.irq_size

abbrev pub masks_place : ℕ → ℕ
masks_place i = Layout.masks_at + i * Layout.masks_size

abbrev pub mask_place : ℕ → Seat → ℕ
mask_place i s = masks_place i + s * Layout.mask_size

abbrev pub handle_in : List ℕ → ℕ → ℕ
handle_in b i = word b (handle_place i)

abbrev pub mask_of : ℕ → Option ℕ
mask_of w = cond (eqb w 0) none (some (w - 1))

unfoldable pub client_in : List ℕ → ℕ → Client
client_in b i =
    record {
      handle = handle_in b i;
      attributes = byte b (attributes_place i);
      events = word b (events_place i);
      mask = below Layout.seat_room none (λ s. mask_of (word b (mask_place i s)));
    }

unfoldable pub range_in : List ℕ → ℕ → Range
range_in b i = record { base = word b (range_place i); count = long b (range_place i + Layout.range_count_at); reserved = marked (byte b (range_place i + Layout.range_reserved_at)) }

unfoldable pub level_in : List ℕ → ℕ → Level
level_in b l = record { managed = marked (byte b (level_place l)); reserved = marked (byte b (level_place l + Layout.level_reserved_at)) }

-- the ports that the record of an I/O grant says
abbrev pub ports_in : List ℕ → ℕ → Ports
ports_in b at = record { base = word b (at + Layout.io_base_at); count = byte b (at + Layout.io_count_at); lines = byte b (at + Layout.io_lines_at) }

unfoldable pub io_in : List ℕ → Seat → IoGrant
io_in b s =
    record { client = word b (io_place_lem s); ports = ports_in b (io_place_lem s); shared = marked (byte b (io_place_lem s + Layout.io_shared_at)) }

abbrev pub manner_of_lem : ℕ → Manner
manner_of_lem n = cond (eqb n 0) Exclusive (cond (eqb n 1) TimeMultiplexed (cond (eqb n 2) DynamicLevel DynamicPulse))

unfoldable pub irq_in : List ℕ → Seat → IrqGrant
irq_in b s = record { client = word b (irq_place_lem s); level = byte b (irq_place_lem s + Layout.irq_level_at); manner = manner_of_lem (byte b (irq_place_lem s + Layout.irq_manner_at)) }

-- a grant's record whose client is 0 is no grant
unfoldable pub io_here : List ℕ → Seat → Option IoGrant
io_here b s = cond (eqb (word b (io_place_lem s)) 0) none (some (io_in b s))

unfoldable pub irq_here : List ℕ → Seat → Option IrqGrant
irq_here b s = cond (eqb (word b (irq_place_lem s)) 0) none (some (irq_in b s))

unfoldable pub facts_in : List ℕ → Facts
facts_in b =
    record {
      sockets = sockets_in b;
      card = below Table.most_sockets false (λ s. marked (byte b (Layout.cards_at + s)));
      issued = issued_in b;
      clients = up_to (clients_in b) (client_in b);
      level = below Table.all_levels (record { managed = false; reserved = false }) (level_in b);
      ranges = up_to (ranges_in b) (range_in b);
      io = below Layout.seat_room none (io_here b);
      irq = below Layout.seat_room none (irq_here b);
    }
