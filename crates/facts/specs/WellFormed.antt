-- Which sets of facts are well formed: a field for each clause of document 01's "The table". Assumes nothing.
use Rattle.std.specs.Prelude.{◌≡◌, ◌⊎◌, ◌≢◌, List, [], ◌∷◌, true, ℕ, ◌+◌, ◌%◌, ◌^◌, ◌≤◌, ◌<◌, length}
use Rattle.std.proofs.Math.Option.{some}
use Rattle.facts.specs.Sets.{◌∈◌}
use Rattle.facts.specs.Table
use Rattle.facts.specs.Table.{Facts, Seat, socket_at, Client, Range, HeldPorts, IrqGrant, Held}
use Rattle.facts.specs.Ports.{Meet, AllManaged, AnswersManaged}
use Rattle.facts.specs.Levels.{Together}

-- handles in order: each over the one before it, and the first over lo
abbrev pub Rising : ℕ → List Client → Type 0
Rising lo [] = Unit {0}
Rising lo (c ∷ cs) = (lo < c.handle) × Rising c.handle cs

-- ranges in order: each has a port and starts at or past the end of the one before it, and the first at or past lo
abbrev pub Apart : ℕ → List Range → Type 0
Apart lo [] = Unit {0}
Apart lo (r ∷ rs) = (lo ≤ r.base) × (1 ≤ r.count) × Apart (r.base + r.count) rs

-- h is a live client's handle
pub record Live (F : Facts) (h : ℕ) : Type 0 where
  pub client : Client
  pub listed : client ∈ F.clients
  pub handle : client.handle ≡ h

-- "Attribute bits or client types that 5.37 doesn't allow": one of bits 0 to 2, any of bits 3 and 4, no other
pub record AttributesAllowed (a : ℕ) : Type 0 where
  pub bits : a < 2 ^ 5
  pub type : (a % 2 ^ 3 ≡ 2 ^ 0) ⊎ (a % 2 ^ 3 ≡ 2 ^ 1) ⊎ (a % 2 ^ 3 ≡ 2 ^ 2)

-- event mask bits 12 to 15 are clear
abbrev pub EventsAllowed : ℕ → Type 0
EventsAllowed m = m < Table.all_events

-- a client: its handle is issued, its attributes and masks are ones a request accepts, its masks' sockets are below the count
pub record ClientFits (F : Facts) (c : Client) : Type 0 where
  pub issued : c.handle ≤ F.issued
  pub attributes : AttributesAllowed c.attributes
  pub events : EventsAllowed c.events
  pub mask : (s : Seat) (m : ℕ) → c.mask s ≡ some m → (socket_at s < F.sockets) × EventsAllowed m

-- "every grant .. has a live client and a socket below the count; granted .. ports are managed; an I/O grant has base 1 or more, lines 1 to 16 and a
-- count RequestIO allows"; K2 (document 02): "each port that equals a granted one modulo two to the lines must be managed too"
pub record IoFits (F : Facts) (s : Seat) (x : HeldPorts) : Type 0 where
  pub client : Live F x.client
  pub socket : socket_at s < F.sockets
  pub base : 1 ≤ x.ports.base
  pub line : 1 ≤ x.ports.lines
  pub lines : x.ports.lines ≤ Table.most_lines
  pub port : 1 ≤ x.ports.count
  pub asked : x.ports.count ≤ Table.most_asked
  pub decoded : x.ports.count ≤ 2 ^ x.ports.lines
  pub managed : AllManaged F x.ports.base x.ports.count
  pub answers : AnswersManaged F x.ports

-- "every grant .. has a live client and a socket below the count; granted levels .. are managed"
pub record IrqFits (F : Facts) (s : Seat) (g : IrqGrant) : Type 0 where
  pub client : Live F g.client
  pub socket : socket_at s < F.sockets
  pub managed : (F.level g.level).managed ≡ true

-- demand 3: "no two live grants meet on a level or a decoded port unless both asked to share in the same manner"
abbrev pub IoCompany : HeldPorts → HeldPorts → Type 0
IoCompany x x' = Meet x.ports x'.ports → (x.shared ≡ true) × (x'.shared ≡ true)

abbrev pub IrqCompany : IrqGrant → IrqGrant → Type 0
IrqCompany g g' = g.level ≡ g'.level → Together g.manner g'.manner

pub record WellFormed (F : Facts) : Type 0 where
  -- "socket count 1 to 8; a card present or not in each"
  pub sockets_least : 1 ≤ F.sockets
  pub sockets_most : F.sockets ≤ Table.most_sockets
  pub cards : (s : ℕ) → F.card s ≡ true → s < F.sockets
  -- "up to 16 live clients (handle, attributes, event mask); handles issued so far, up to 65,535"
  pub issued : F.issued ≤ Table.most_issued
  pub clients_most : length F.clients ≤ Table.most_clients
  -- "live handles differ, aren't 0 and aren't over the number issued"; "attributes and masks are ones a request accepts"; "every .. mask has .. a
  -- socket below the count"
  pub handles : Rising 0 F.clients
  pub clients : (c : Client) → c ∈ F.clients → ClientFits F c
  -- "IRQ levels 0 to 15, each managed or not and reserved or not"; "an unmanaged level isn't reserved"
  pub levels : (l : ℕ) → (F.level l).managed ≡ true → l < Table.all_levels
  pub reserved : (l : ℕ) → (F.level l).reserved ≡ true → (F.level l).managed ≡ true
  -- "up to 32 managed I/O ranges"; "ranges have a port and don't overlap or pass FFFF"
  pub ranges_most : length F.ranges ≤ Table.most_ranges
  pub apart : Apart 0 F.ranges
  pub ranges : (r : Range) → r ∈ F.ranges → r.base + r.count ≤ Table.all_ports
  -- "every grant .. has a live client and a socket below the count; granted levels and ports are managed"
  pub ios : (s : Seat) (x : HeldPorts) → Held F s x → IoFits F s x
  pub irqs : (s : Seat) (g : IrqGrant) → F.irq s ≡ some g → IrqFits F s g
  -- "grants meet only as demand 3 allows"
  pub io_company : (s t : Seat) (x x' : HeldPorts) → s ≢ t → Held F s x → Held F t x' → IoCompany x x'
  pub irq_company : (s t : Seat) (g g' : IrqGrant) → s ≢ t → F.irq s ≡ some g → F.irq t ≡ some g' → IrqCompany g g'
