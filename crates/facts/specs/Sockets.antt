-- Sockets: card in, card out, RequestSocketMask (5.54), ReleaseSocketMask (5.46). Assumes nothing.
use Rattle.std.specs.Prelude.{◌≡◌, ◌⊎◌, ◌≢◌, List, [], ◌∷◌, map, Bool, cond, false, ℕ, ◌≤◌, length, eqb}
use Rattle.std.proofs.Math.Option.{Option, none, some}
use Rattle.facts.specs.declared.Code.{Code}
use Rattle.facts.specs.declared.Code.TheVariants.{BadAttribute, BadArgLength, BadSocket, NoCard, InUse, BadHandle}
use Rattle.facts.specs.Table.{Facts, Seat, seat_of, Client}
use Rattle.facts.specs.Sets.{put}
use Rattle.facts.specs.WellFormed.{Live, EventsAllowed}
use Rattle.facts.specs.Packets.{byte, word}
use Rattle.facts.specs.Clients.{with_clients, MaskHeld}
use Rattle.facts.specs.Checks.{Check, ◌gives◌, Leaves, Decided, Ruled, Rule}

-- the packet's socket and function: "socket not below the count, function not 0"
abbrev pub socket_of : List ℕ → ℕ
socket_of p = byte p 0

abbrev pub BadSocketIn : Facts → List ℕ → Type 0
BadSocketIn F p = (F.sockets ≤ socket_of p) ⊎ (byte p 1 ≢ 0)

-- "Checks run in this order .. length, handle, socket, card": what every service on a socket begins with; a release needs no card
abbrev pub release_checks : ℕ → Facts → ℕ → List ℕ → List Check → List Check
release_checks n F h p own = ((length p ≢ n) gives BadArgLength) ∷ ((Live F h → ⊥) gives BadHandle) ∷ (BadSocketIn F p gives BadSocket) ∷ own

abbrev pub request_checks : ℕ → Facts → ℕ → List ℕ → List Check → List Check
request_checks n F h p own = release_checks n F h p ((F.card (socket_of p) ≡ false gives NoCard) ∷ own)

-- "Card in and out: BAD_SOCKET or done, also when nothing changes. Card out takes no grant or mask away."
abbrev pub with_card : Facts → ℕ → Bool → Facts
with_card F s present =
    record {
      sockets = F.sockets;
      card = put F.card s present;
      issued = F.issued;
      clients = F.clients;
      level = F.level;
      ranges = F.ranges;
      io = F.io;
      irq = F.irq;
    }

abbrev pub card_checks : Facts → ℕ → List Check
card_checks F s = ((F.sockets ≤ s) gives BadSocket) ∷ []

-- what card in and card out answer and leave: a code, and the facts
pub record CardOutcome : Type 0 where
  pub code : Code
  pub facts : Facts

abbrev pub CardTo : Bool → Facts → ℕ → CardOutcome → Type 0
CardTo present F s o = Decided (card_checks F s) o.code (o.facts ≡ F) (o.facts ≡ with_card F s present)

-- a client with m as its mask at the seat s, and the clients of which the one with the handle h has it
abbrev pub masking : Seat → Option ℕ → Client → Client
masking s m c = record { handle = c.handle; attributes = c.attributes; events = c.events; mask = put c.mask s m }

abbrev pub with_mask : ℕ → Seat → Option ℕ → List Client → List Client
with_mask h s m = map (λ (c : Client). cond (eqb c.handle h) (masking s m c) c)

-- the packet of RequestSocketMask (5.54): socket and function at 0, event mask 2 bytes at 2; that of ReleaseSocketMask (5.46): socket and function
abbrev pub request_mask_length : ℕ
request_mask_length = 4

abbrev pub release_mask_length : ℕ
release_mask_length = 2

abbrev pub events_asked : List ℕ → ℕ
events_asked p = word p 2

-- "RequestSocketMask: bits 12 to 15 BAD_ATTRIBUTE; a second one for the same client and socket IN_USE."
abbrev pub own_mask_checks : Facts → ℕ → List ℕ → List Check
own_mask_checks F h p = ((EventsAllowed (events_asked p) → ⊥) gives BadAttribute) ∷ (MaskHeld F h (seat_of (socket_of p)) gives InUse) ∷ []

abbrev pub request_mask_checks : Facts → ℕ → List ℕ → List Check
request_mask_checks F h p = request_checks request_mask_length F h p (own_mask_checks F h p)

abbrev pub RequestSocketMask : Rule
RequestSocketMask F h p =
    Ruled (request_mask_checks F h p) (Leaves h p (with_clients F (with_mask h (seat_of (socket_of p)) (some (events_asked p)) F.clients))) F p

-- "ReleaseSocketMask needs no card; nothing held: BAD_SOCKET."
abbrev pub release_mask_checks : Facts → ℕ → List ℕ → List Check
release_mask_checks F h p = release_checks release_mask_length F h p (((MaskHeld F h (seat_of (socket_of p)) → ⊥) gives BadSocket) ∷ [])

abbrev pub ReleaseSocketMask : Rule
ReleaseSocketMask F h p =
    Ruled (release_mask_checks F h p) (Leaves h p (with_clients F (with_mask h (seat_of (socket_of p)) none F.clients))) F p
