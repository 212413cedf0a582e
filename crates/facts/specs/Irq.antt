-- RequestIRQ (5.53), ReleaseIRQ (5.45), and the number of sharers of a level. Assumes nothing.
use Rattle.std.specs.Prelude.{◌≡◌, ◌⊎◌, ◌≢◌, List, [], ◌∷◌, cond, true, false, ℕ, zero, suc, ◌+◌, ◌%◌, ◌^◌, ◌≤◌, set, eqb}
use Rattle.std.proofs.Math.Option.{Option, none, some}
use Rattle.facts.specs.declared.IrqAsked.{IrqAsked}
use Rattle.facts.specs.declared.Manner.{Manner}
use Rattle.facts.specs.declared.Manner.TheVariants.{Exclusive, TimeMultiplexed, DynamicLevel, DynamicPulse}
use Rattle.facts.specs.declared.Code.{Code}
use Rattle.facts.specs.declared.Code.TheVariants.{BadAttribute, BadArgs, BadIrq, InUse}
use Rattle.facts.specs.Table
use Rattle.facts.specs.Table.{Facts, Seat, seat_of, IrqGrant}
use Rattle.facts.specs.Sets.{put}
use Rattle.facts.specs.Choice.{Chosen, Lowest}
use Rattle.facts.specs.Levels.{Together, Holds, type_of, exclusive_type, time_multiplexed_type, dynamic_type}
use Rattle.facts.specs.Packets.{byte, word, with_word, bit}
use Rattle.facts.specs.Sockets.{socket_of, request_checks, release_checks}
use Rattle.facts.specs.Checks.{Check, ◌gives◌, Leaves, Outcome, Decided, Ruled, Rule}

-- RequestIRQ's packet (5.53). "The 8-byte packet: socket and function at 0, attributes 2 bytes at 2, AssignedIRQ at 4, IRQInfo1 at 5, IRQInfo2
-- 2 bytes at 6."
abbrev pub request_irq_length : ℕ
request_irq_length = 8

abbrev pub attributes_of : List ℕ → ℕ
attributes_of p = word p 2

abbrev pub assigned_irq : List ℕ → ℕ
assigned_irq p = byte p 4

abbrev pub info1 : List ℕ → ℕ
info1 p = byte p 5

abbrev pub info2 : List ℕ → ℕ
info2 p = word p 6

-- the attributes (5.53): the type in bits 0 to 1, Force Pulse and First Shared
abbrev pub type_asked_lem : List ℕ → ℕ
type_asked_lem p = attributes_of p % 2 ^ 2

abbrev pub ForcePulse : List ℕ → Type 0
ForcePulse p = bit (attributes_of p) 2 ≡ 1

abbrev pub IrqFirstShared : List ℕ → Type 0
IrqFirstShared p = bit (attributes_of p) 3 ≡ 1

-- IRQInfo1 (5.53): a level in bits 0 to 3, and what the card can do
abbrev pub level_asked_lem : List ℕ → ℕ
level_asked_lem p = info1 p % 2 ^ 4

abbrev pub Mask : List ℕ → Type 0
Mask p = bit (info1 p) 4 ≡ 1

abbrev pub LevelBit : List ℕ → Type 0
LevelBit p = bit (info1 p) 5 ≡ 1

abbrev pub PulseBit : List ℕ → Type 0
PulseBit p = bit (info1 p) 6 ≡ 1

abbrev pub ShareBit : List ℕ → Type 0
ShareBit p = bit (info1 p) 7 ≡ 1

-- "BAD_ATTRIBUTE: type 3; any of bits 4 to 15 set; First Shared with Exclusive; Force Pulse without the card's Pulse bit; dynamic sharing without
-- its Share bit."
abbrev pub IrqAttributesBad : List ℕ → Type 0
IrqAttributesBad p =
    (type_asked_lem p ≡ 3) ⊎ (2 ^ 4 ≤ attributes_of p) ⊎ (IrqFirstShared p × (type_asked_lem p ≡ exclusive_type)) ⊎ (ForcePulse p × (PulseBit p → ⊥))
    ⊎ ((type_asked_lem p ≡ dynamic_type) × (ShareBit p → ⊥))

-- "BAD_ARGS: neither Level nor Pulse; Mask set with any of IRQInfo1's bits 0 to 3, or with IRQInfo2 0."
abbrev pub IrqInfoBad : List ℕ → Type 0
IrqInfoBad p = ((LevelBit p → ⊥) × (PulseBit p → ⊥)) ⊎ (Mask p × (level_asked_lem p ≢ 0)) ⊎ (Mask p × (info2 p ≡ 0))

-- "Dynamic is pulse if Force Pulse is set or the card lacks Level."
abbrev pub dynamic_of : ℕ → ℕ → Manner
dynamic_of force level = cond (eqb force 1) DynamicPulse (cond (eqb level 1) DynamicLevel DynamicPulse)

-- "Four manners: exclusive, time-multiplexed, dynamic level, dynamic pulse."
abbrev pub manner_asked_lem : List ℕ → Manner
manner_asked_lem p =
    cond (eqb (type_asked_lem p) exclusive_type) Exclusive
    (cond (eqb (type_asked_lem p) time_multiplexed_type) TimeMultiplexed
    (dynamic_of (bit (attributes_of p) 2) (bit (info1 p) 5)))

-- the levels that a packet names, a bit for each: "With Mask clear, the low four bits name one level and IRQInfo2 is ignored."
abbrev pub levels_named_lem : List ℕ → ℕ
levels_named_lem p = cond (eqb (bit (info1 p) 4) 1) (info2 p) (2 ^ level_asked_lem p)

-- what a packet asks for
abbrev pub irq_asked : List ℕ → IrqAsked
irq_asked p = record { manner = manner_asked_lem p; named = levels_named_lem p; first = eqb (bit (attributes_of p) 3) 1 }

abbrev pub Named : IrqAsked → ℕ → Type 0
Named q l = bit q.named l ≡ 1

-- "A level fits if it is named, managed, and either has no grant or, without First Shared, all its grants go together with this manner."
pub record Fits (F : Facts) (q : IrqAsked) (l : ℕ) : Type 0 where
  pub named : Named q l
  pub managed : (F.level l).managed ≡ true
  pub free : ((s : Seat) (g : IrqGrant) → Holds F l s g → ⊥)
      ⊎ ((q.first ≡ false) × ((s : Seat) (g : IrqGrant) → Holds F l s g → Together g.manner q.manner))

-- none does
abbrev pub NoLevelFits : Facts → IrqAsked → Type 0
NoLevelFits F q = (l : ℕ) → Fits F q l → ⊥

-- "An unreserved level comes before a reserved one, then the lowest."
abbrev pub FirstFitting : Facts → IrqAsked → ℕ → Type 0
FirstFitting F q = Chosen (Fits F q) (λ l. (F.level l).reserved ≡ false)

-- K1: "A sharing request without First Shared"
pub record Joining (q : IrqAsked) : Type 0 where
  pub shares : q.manner ≢ Exclusive
  pub not_first : q.first ≡ false

-- K1: "the lowest named level that already has grants of its manner": one of these, reserved or not
pub record Joins (F : Facts) (q : IrqAsked) (l : ℕ) : Type 0 where
  pub joining : Joining q
  pub named : Named q l
  pub managed : (F.level l).managed ≡ true
  pub seat : Seat
  pub grant : IrqGrant
  pub holds : Holds F l seat grant
  pub manner : grant.manner ≡ q.manner

-- "none exists"
abbrev pub NoLevelJoined : Facts → IrqAsked → Type 0
NoLevelJoined F q = (l : ℕ) → Joins F q l → ⊥

-- K1: it takes "the lowest" of them; "only if none exists, the old choice"
abbrev pub LevelTaken : Facts → IrqAsked → ℕ → Type 0
LevelTaken F q l = Lowest (Joins F q) l ⊎ (NoLevelJoined F q × FirstFitting F q l)

abbrev pub with_irq : Facts → Seat → Option IrqGrant → Facts
with_irq F s g =
    record {
      sockets = F.sockets;
      card = F.card;
      issued = F.issued;
      clients = F.clients;
      level = F.level;
      ranges = F.ranges;
      io = F.io;
      irq = put F.irq s g;
    }

-- "Success writes AssignedIRQ and, for dynamic pulse only, attribute bit 8."
abbrev pub with_pulse : Manner → List ℕ → List ℕ
with_pulse Exclusive p = p
with_pulse TimeMultiplexed p = p
with_pulse DynamicLevel p = p
with_pulse DynamicPulse p = with_word p 2 (attributes_of p + 2 ^ 8)

abbrev pub assigning : List ℕ → ℕ → List ℕ
assigning p l = set (with_pulse (manner_asked_lem p) p) 4 l

-- the checks ahead of the fit; "IN_USE: the socket has an IRQ grant."
abbrev pub own_irq_checks : Facts → List ℕ → List Check → List Check
own_irq_checks F p fit = (IrqAttributesBad p gives BadAttribute) ∷ (IrqInfoBad p gives BadArgs) ∷ ((F.irq (seat_of (socket_of p)) ≢ none) gives InUse) ∷ fit

abbrev pub irq_ahead_checks : Facts → ℕ → List ℕ → List Check → List Check
irq_ahead_checks F h p fit = request_checks request_irq_length F h p (own_irq_checks F p fit)

-- "None: BAD_IRQ."
abbrev pub level_checks : Facts → IrqAsked → List Check
level_checks F q = (NoLevelFits F q gives BadIrq) ∷ []

abbrev pub irq_request_checks : Facts → ℕ → List ℕ → List Check
irq_request_checks F h p = irq_ahead_checks F h p (level_checks F (irq_asked p))

-- the client h is granted the level taken, on the packet's socket and in the manner asked for
abbrev pub irq_grant : ℕ → IrqAsked → ℕ → IrqGrant
irq_grant h q l = record { client = h; level = l; manner = q.manner }

pub record GrantsIrq (F : Facts) (h : ℕ) (p : List ℕ) (o : Outcome) : Type 0 where
  pub level : ℕ
  pub taken : LevelTaken F (irq_asked p) level
  pub leaves : Leaves h (assigning p level) (with_irq F (seat_of (socket_of p)) (some (irq_grant h (irq_asked p) level))) o

abbrev pub RequestIrq : Rule
RequestIrq F h p = Ruled (irq_request_checks F h p) (GrantsIrq F h p) F p

-- this client holds this level at this seat
pub record IrqHeld (F : Facts) (h : ℕ) (s : Seat) (l : ℕ) (g : IrqGrant) : Type 0 where
  pub live : F.irq s ≡ some g
  pub client : g.client ≡ h
  pub level : g.level ≡ l

-- the packet of ReleaseIRQ (5.45): as RequestIRQ's, up to AssignedIRQ
abbrev pub release_irq_length : ℕ
release_irq_length = 5

-- "Release needs no card. BAD_IRQ unless this client holds this level on this socket; only then BAD_ATTRIBUTE if the type bits differ. Other
-- attribute bits are ignored."
abbrev pub irq_release_checks : Facts → ℕ → List ℕ → List Check
irq_release_checks F h p =
    release_checks release_irq_length F h p
    ((((g : IrqGrant) → IrqHeld F h (seat_of (socket_of p)) (assigned_irq p) g → ⊥) gives BadIrq)
    ∷ (((g : IrqGrant) × IrqHeld F h (seat_of (socket_of p)) (assigned_irq p) g × (type_of g.manner ≢ type_asked_lem p)) gives BadAttribute)
    ∷ [])

abbrev pub ReleaseIrq : Rule
ReleaseIrq F h p = Ruled (irq_release_checks F h p) (Leaves h p (with_irq F (seat_of (socket_of p)) none)) F p

-- one for a grant on the level l, else none
abbrev pub sharer : ℕ → Option IrqGrant → ℕ
sharer l none = 0
sharer l (some g) = cond (eqb g.level l) 1 0

-- the number of live grants of the level l at the seats below n
abbrev pub sharers_below : Facts → ℕ → ℕ → ℕ
sharers_below F l zero = 0
sharers_below F l (suc n) = sharers_below F l n + sharer l (F.irq n)

-- what the question for sharers answers: a code and a count
pub record Count : Type 0 where
  pub code : Code
  pub count : ℕ

-- "Sharers: a level over 15 is BAD_IRQ; a refusal's count is 0; else the number of live grants, never over 8."
abbrev pub sharers_checks : ℕ → List Check
sharers_checks l = ((Table.all_levels ≤ l) gives BadIrq) ∷ []

abbrev pub Sharers : Facts → ℕ → Count → Type 0
Sharers F l o = Decided (sharers_checks l) o.code (o.count ≡ 0) (o.count ≡ sharers_below F l F.sockets)
