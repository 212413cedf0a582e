-- RegisterClient (5.37) and DeregisterClient (5.8). Assumes nothing.
use Rattle.std.specs.Prelude.{◌≡◌, ◌⊎◌, ◌≢◌, List, [], ◌∷◌, ◌++◌, ℕ, ◌+◌, ◌≤◌, length}
use Rattle.std.proofs.Math.Option.{none, some}
use Rattle.facts.specs.declared.Code.TheVariants.{BadAttribute, BadArgLength, InUse, OutOfResource, BadHandle}
use Rattle.facts.specs.Table
use Rattle.facts.specs.Table.{Facts, Seat, Client, HeldPorts, IrqGrant, Held}
use Rattle.facts.specs.Sets.{◌∈◌, without}
use Rattle.facts.specs.WellFormed.{Live, AttributesAllowed, EventsAllowed}
use Rattle.facts.specs.Packets.{word}
use Rattle.facts.specs.Checks.{Check, ◌gives◌, Leaves, Ruled, Rule}

abbrev pub with_clients : Facts → List Client → Facts
with_clients F cs =
    record { sockets = F.sockets; card = F.card; issued = F.issued; clients = cs; level = F.level; ranges = F.ranges; io = F.io; irq = F.irq }

-- "Handles are 1, 2, 3 and on, each issued once in a table's life"
abbrev pub next_handle : Facts → ℕ
next_handle F = F.issued + 1

-- the packet of RegisterClient (5.37): attributes 2 bytes at 0, event mask 2 bytes at 2
abbrev pub register_length : ℕ
register_length = 14

abbrev pub client_attributes : List ℕ → ℕ
client_attributes p = word p 0

abbrev pub client_events : List ℕ → ℕ
client_events p = word p 2

-- the new client: its handle is the next one, and it holds no socket mask yet
abbrev pub new_client : Facts → ℕ → ℕ → Client
new_client F attributes events = record { handle = next_handle F; attributes = attributes; events = events; mask = λ s. none }

-- it stands last
abbrev pub registered : Facts → ℕ → ℕ → Facts
registered F attributes events =
    record {
      sockets = F.sockets;
      card = F.card;
      issued = next_handle F;
      clients = F.clients ++ (new_client F attributes events ∷ []);
      level = F.level;
      ranges = F.ranges;
      io = F.io;
      irq = F.irq;
    }

-- "RegisterClient doesn't look at the given handle, and answers the new one. Attribute bits or client types that 5.37 doesn't allow: BAD_ATTRIBUTE;
-- fields after the event mask are ignored. Event mask bits 12 to 15 set: BAD_ATTRIBUTE. OUT_OF_RESOURCE exactly if 16 are live or 65,535 were
-- issued."
abbrev pub register_checks : Facts → List ℕ → List Check
register_checks F p =
    ((length p ≢ register_length) gives BadArgLength)
    ∷ ((AttributesAllowed (client_attributes p) → ⊥) gives BadAttribute)
    ∷ ((EventsAllowed (client_events p) → ⊥) gives BadAttribute)
    ∷ (((Table.most_clients ≤ length F.clients) ⊎ (Table.most_issued ≤ F.issued)) gives OutOfResource)
    ∷ []

abbrev pub Register : Rule
Register F h p = Ruled (register_checks F p) (Leaves (next_handle F) p (registered F (client_attributes p) (client_events p))) F p

-- the clients but the one whose handle is h
abbrev pub without_client : ℕ → List Client → List Client
without_client = without (λ (c : Client). c.handle)

-- what a client holds
pub record HoldsIo (F : Facts) (h : ℕ) : Type 0 where
  pub seat : Seat
  pub range : HeldPorts
  pub held : Held F seat range
  pub holder : range.client ≡ h

pub record HoldsIrq (F : Facts) (h : ℕ) : Type 0 where
  pub seat : Seat
  pub grant : IrqGrant
  pub live : F.irq seat ≡ some grant
  pub holder : grant.client ≡ h

-- the client h holds the mask m at the seat s
pub record Masks (F : Facts) (h : ℕ) (s : Seat) (m : ℕ) : Type 0 where
  pub client : Client
  pub listed : client ∈ F.clients
  pub handle : client.handle ≡ h
  pub mask : client.mask s ≡ some m

-- the client h has a mask at the seat s
abbrev pub MaskHeld : Facts → ℕ → Seat → Type 0
MaskHeld F h s = (m : ℕ) × Masks F h s m

-- it has one at some seat
abbrev pub HoldsMask : Facts → ℕ → Type 0
HoldsMask F h = (s : Seat) × (m : ℕ) × Masks F h s m

-- the packet of DeregisterClient (5.8) is empty
abbrev pub deregister_length : ℕ
deregister_length = 0

-- "DeregisterClient takes an empty packet and is refused with IN_USE exactly while the client holds an I/O grant, an IRQ grant or a socket mask."
abbrev pub deregister_checks : Facts → ℕ → List ℕ → List Check
deregister_checks F h p =
    ((length p ≢ deregister_length) gives BadArgLength)
    ∷ ((Live F h → ⊥) gives BadHandle)
    ∷ ((HoldsIo F h ⊎ HoldsIrq F h ⊎ HoldsMask F h) gives InUse)
    ∷ []

abbrev pub Deregister : Rule
Deregister F h p = Ruled (deregister_checks F h p) (Leaves h p (with_clients F (without_client h F.clients))) F p
