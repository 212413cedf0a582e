-- What stands after a run of calls, worked out from the calls and their answers alone. Assumes nothing.
use Rattle.std.specs.Prelude.{◌≡◌, ◌⊎◌, List, [], ◌∷◌, ◌++◌, Bool, cond, ℕ, ◌+◌, length, eqb}
use Rattle.facts.specs.declared.Code.TheVariants.{Success}
use Rattle.facts.specs.declared.Record.{Record}
use Rattle.facts.specs.declared.Width.{Width}
use Rattle.facts.specs.Codes.{number_of}
use Rattle.facts.specs.Table.{Range, IoGrant, IrqGrant}
use Rattle.facts.specs.Sets.{◌∈◌}
use Rattle.facts.specs.Clients.{client_attributes, client_events}
use Rattle.facts.specs.Sockets.{socket_of, events_asked}
use Rattle.facts.specs.Resources.{action_of, resource_of, add, remove, irq_level, io_range, level_given, level_attributes, io_adjust_length, reserves}
use Rattle.facts.specs.Resources.{base_given, count_given, attributes_given}
use Rattle.facts.specs.Levels.{type_of}
use Rattle.facts.specs.Irq.{assigned_irq, type_asked_lem, irq_asked, irq_grant}
use Rattle.facts.specs.Io.{base_asked_lem, count_asked_lem, io_asked, io_grant}
use Rattle.facts.specs.Boot.{records_in}
use Rattle.facts.specs.Services.{Service, register_client, deregister_client, adjust_resource_info, request_irq, release_irq, request_io, release_io}
use Rattle.facts.specs.Services.{request_socket_mask, release_socket_mask, service_number}
use Rattle.history.specs.Events.{Event, make_fresh, call, card_in, card_out, boot, sharers}

-- one thing that a table can say
pub data Fact : Type 0 where
  -- a live client; its mask for a socket
  client : (handle attributes events : ℕ) → Fact
  mask : (handle socket events : ℕ) → Fact
  -- a managed level, a managed range
  level : (number : ℕ) (reserved : Bool) → Fact
  range : Range → Fact
  -- a card, an I/O grant, an IRQ grant in a socket
  card : (socket : ℕ) → Fact
  io : (socket : ℕ) → IoGrant → Fact
  irq : (socket : ℕ) → IrqGrant → Fact

-- what a service makes that answers SUCCESS: it was given the handle h and the packet p, answered the handle a and left the packet q
pub data Made (h : ℕ) (p : List ℕ) (a : ℕ) (q : List ℕ) : Service → Fact → Type 0 where
  client_made : Made h p a q register_client (client a (client_attributes p) (client_events p))
  mask_made : Made h p a q request_socket_mask (mask h (socket_of p) (events_asked p))
  level_made : resource_of p ≡ irq_level → action_of p ≡ add
      → Made h p a q adjust_resource_info (level (level_given p) (reserves (level_attributes p)))
  range_made : (w : Width) → length p ≡ io_adjust_length w → resource_of p ≡ io_range → action_of p ≡ add
      → Made h p a q adjust_resource_info (range (record { base = base_given w p; count = count_given w p; reserved = reserves (attributes_given w p) }))
  io_made : Made h p a q request_io (io (socket_of p) (io_grant h (io_asked p) (base_asked_lem q)))
  irq_made : Made h p a q request_irq (irq (socket_of p) (irq_grant h (irq_asked p) (assigned_irq q)))

-- what it gives back
pub data GivenBack (h : ℕ) (p : List ℕ) : Service → Fact → Type 0 where
  client_back : {attributes events : ℕ} → GivenBack h p deregister_client (client h attributes events)
  mask_back : {events : ℕ} → GivenBack h p release_socket_mask (mask h (socket_of p) events)
  level_back : {reserved : Bool} → resource_of p ≡ irq_level → action_of p ≡ remove
      → GivenBack h p adjust_resource_info (level (level_given p) reserved)
  range_back : {reserved : Bool} (w : Width) → length p ≡ io_adjust_length w → resource_of p ≡ io_range → action_of p ≡ remove
      → GivenBack h p adjust_resource_info (range (record { base = base_given w p; count = count_given w p; reserved = reserved }))
  -- the client's own, of that base and count
  io_back : {g : IoGrant} → g.client ≡ h → g.ports.base ≡ base_asked_lem p → g.ports.count ≡ count_asked_lem p
      → GivenBack h p release_io (io (socket_of p) g)
  -- the client's own, of that level and type
  irq_back : {g : IrqGrant} → g.client ≡ h → g.level ≡ assigned_irq p → type_of g.manner ≡ type_asked_lem p
      → GivenBack h p release_irq (irq (socket_of p) g)

-- what a record of a boot list makes
pub data Recorded (r : Record) : Fact → Type 0 where
  level_recorded : r.resource ≡ irq_level → Recorded r (level r.base (reserves r.attributes))
  range_recorded : r.resource ≡ io_range → Recorded r (range (record { base = r.base; count = r.count; reserved = reserves r.attributes }))

-- the event makes the fact; a boot list makes its records before the place that it answers
abbrev pub Makes : Event → Fact → Type 0
Makes (make_fresh n k) f = ⊥
Makes (call n h p k a q) f = (k ≡ Success) × (v : Service) × (service_number v ≡ n) × Made h p a q v f
Makes (card_in s k) f = (k ≡ Success) × (f ≡ card s)
Makes (card_out s k) f = ⊥
Makes (boot b k i) f = (r : Record) × (r ∈ records_in i b) × Recorded r f
Makes (sharers l k c) f = ⊥

-- the event gives the fact back; one that made a new table would begin another run
abbrev pub GivesBack : Event → Fact → Type 0
GivesBack (make_fresh n k) f = ⊥
GivesBack (call n h p k a q) f = (k ≡ Success) × (v : Service) × (service_number v ≡ n) × GivenBack h p v f
GivesBack (card_in s k) f = ⊥
GivesBack (card_out s k) f = (k ≡ Success) × (f ≡ card s)
GivesBack (boot b k i) f = ⊥
GivesBack (sharers l k c) f = ⊥

-- none of the events gives the fact back
abbrev pub Lasts : List Event → Fact → Type 0
Lasts es f = (e : Event) → e ∈ es → GivesBack e f → ⊥

-- the fact stands after the events: one of them made it, and no later one gave it back
pub record Stands (es : List Event) (f : Fact) : Type 0 where
  pub earlier : List Event
  pub maker : Event
  pub later : List Event
  pub are : es ≡ earlier ++ (maker ∷ later)
  pub made : Makes maker f
  pub lasts : Lasts later f

-- the same from a table that is carried over: or P held of it before, and none of the events gave it back
abbrev pub StandsSince : (Fact → Type 0) → List Event → Fact → Type 0
StandsSince P es f = Stands es f ⊎ (P f × Lasts es f)

-- the event registers a client with the handle h
abbrev pub Registers : Event → ℕ → Type 0
Registers e h = (attributes events : ℕ) × Makes e (client h attributes events)

-- the number of registrations that succeeded
abbrev pub registration : Event → ℕ
registration (make_fresh n k) = 0
registration (call n h p k a q) = cond (eqb n (service_number register_client)) (cond (eqb (number_of k) (number_of Success)) 1 0) 0
registration (card_in s k) = 0
registration (card_out s k) = 0
registration (boot b k i) = 0
registration (sharers l k c) = 0

abbrev pub registrations : List Event → ℕ
registrations [] = 0
registrations (e ∷ es) = registration e + registrations es
