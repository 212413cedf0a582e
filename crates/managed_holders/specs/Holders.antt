-- Who holds a level, or a port of a range: at one seat, at some, and at all. Assumes nothing.
use Rattle.std.specs.Prelude.{◌≡◌, List, Bool, true, false, ℕ, ◌+◌, ◌<◌, min, Option, Some, None}
use Rattle.facts.specs.Choice.{Lowest}
use Rattle.facts.specs.Table.{Facts, Seat, Range, HeldPorts, IrqGrant, Held}
use Rattle.facts.specs.Ports.{Overlap}
use Rattle.facts.specs.Levels.{type_of, Holds}
use Rattle.facts.specs.Resources.{LevelHeld, LevelShown, RangeHeld, RangeShown, held_bit, shared_bit}
use Rattle.layout.specs.Sound.{Accepted}
use Rattle.table_read.specs.Sets.{SomeBelow}
use Rattle.managed_holders.specs.declared.Holders.{Holders}

-- at the seat s a client with the handle h holds the level, and a is shown of it
abbrev pub LevelHolds : Facts → ℕ → Seat → ℕ → ℕ → Type 0
LevelHolds F l s h a = (g : IrqGrant) × Holds F l s g × (g.client ≡ h) × (held_bit + type_of g.manner ≡ a)

-- what is shown of a holder of ports, who shares them or not
abbrev pub shown : Bool → ℕ
shown true = held_bit + shared_bit
shown false = held_bit

-- it holds one of the ports
abbrev pub PortsHold : Facts → ℕ → ℕ → Seat → ℕ → ℕ → Type 0
PortsHold F base count s h a =
    (x : HeldPorts) × Held F s x × Overlap x.ports.base x.ports.count base count × (x.client ≡ h) × (shown x.shared ≡ a)

-- of the handles, and what is shown of them, that are P: none, or these alone
abbrev pub HereIs : (ℕ → ℕ → Type 0) → Option Holders → Type 0
HereIs P (Some x) = P x.lowest.0 x.shown × ((h a : ℕ) → P h a → (h ≡ x.lowest.0) × (a ≡ x.shown))
HereIs P None = (x y : ℕ) → P x y → ⊥

-- of those that are P at a seat below n: none, or the lowest handle and the lowest of what is shown
abbrev pub AreBelow : ℕ → (Seat → ℕ → ℕ → Type 0) → Option Holders → Type 0
AreBelow n P (Some x) =
    Lowest (SomeBelow n (λ s h. (a : ℕ) × P s h a)) x.lowest.0 × Lowest (SomeBelow n (λ s a. (h : ℕ) × P s h a)) x.shown
AreBelow n P None = (s : Seat) → s < n → (x y : ℕ) → P s x y → ⊥

-- the lower of both
abbrev pub together : Option Holders → Option Holders → Option Holders
together None more = more
together (Some x) None = Some x
together (Some x) (Some y) = Some (record { lowest = record { 0 = min x.lowest.0 y.lowest.0 }; shown = min x.shown y.shown })

-- the holders of a level: nobody, or the lowest of their handles and the attributes that are shown of them
abbrev pub HoldLevel : Facts → ℕ → Option Holders → Type 0
HoldLevel F l None = LevelHeld F l → ⊥
HoldLevel F l (Some x) = LevelHeld F l × LevelShown F l x.shown x.lowest.0

abbrev pub LevelHoldersAre : List ℕ → ℕ → Option Holders → Type 0
LevelHoldersAre b l x = (a : Accepted b) → HoldLevel a.facts l x

-- the holders of a range
abbrev pub HoldRange : Facts → Range → Option Holders → Type 0
HoldRange F r None = RangeHeld F r → ⊥
HoldRange F r (Some x) = RangeHeld F r × RangeShown F r x.shown x.lowest.0

abbrev pub RangeHoldersAre : List ℕ → ℕ → ℕ → Option Holders → Type 0
RangeHoldersAre b base count x = (a : Accepted b) (r : Range) → r.base ≡ base → r.count ≡ count → HoldRange a.facts r x
