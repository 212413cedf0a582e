-- What is held at a seat. Assumes nothing.
use Rattle.std.specs.Prelude.{◌≡◌, ◌≢◌, List, ℕ, Some, None}
use Rattle.std.specs.Prelude as std
use Rattle.std.proofs.Math.Option.{Option, none, some}
use Rattle.facts.specs.Packets.{word}
use Rattle.facts.specs.Table
use Rattle.facts.specs.Table.{Seat, IrqGrant}
use Rattle.layout.specs.Reading.{io_in, irq_in, facts_in}
use Rattle.layout.specs.Sound.{IoUsed, IrqUsed}
use Rattle.seats.specs.declared.HeldPorts.{HeldPorts}
use Rattle.seats.specs.declared.HeldLevel.{HeldLevel}

-- a range of ports that is held, and a level, as the facts have them
abbrev pub range : HeldPorts → Table.HeldPorts
range x = record { client = x.client.0; ports = x.ports; shared = x.shared }

abbrev pub grant : HeldLevel → IrqGrant
grant x = record { client = x.client.0; level = x.level; manner = x.manner }

-- what the bytes say is held at the seat, or nothing is
abbrev pub HeldIs : List ℕ → Seat → std.Option HeldPorts → Type 0
HeldIs b s (Some x) = IoUsed b s × (range x ≡ io_in b s)
HeldIs b s None = IoUsed b s → ⊥

abbrev pub LevelHeldIs : List ℕ → Seat → std.Option HeldLevel → Type 0
LevelHeldIs b s (Some x) = IrqUsed b s × (grant x ≡ irq_in b s)
LevelHeldIs b s None = IrqUsed b s → ⊥

-- the grant that an answer says
abbrev pub io_at : std.Option HeldPorts → Option Table.IoGrant
io_at (Some x) = some (range x)
io_at None = none

abbrev pub irq_at : std.Option HeldLevel → Option IrqGrant
irq_at (Some x) = some (grant x)
irq_at None = none

-- the record at a place says the client h, who is not nobody
abbrev pub Recorded : List ℕ → ℕ → ℕ → Type 0
Recorded b at h = (h ≢ 0) × (word b at ≡ h)

-- there is a grant, and its client is h
abbrev pub HeldBy : {G : Type 0} → (G → ℕ) → ℕ → Option G → Type 0
HeldBy client h none = ⊥
HeldBy client h (some g) = client g ≡ h

-- the bytes say that the client h holds the I/O grant at the seat, or its IRQ grant
abbrev pub IoHeldBy : List ℕ → ℕ → Seat → Type 0
IoHeldBy b h s = HeldBy (λ (g : Table.IoGrant). g.client) h ((facts_in b).io s)

abbrev pub IrqHeldBy : List ℕ → ℕ → Seat → Type 0
IrqHeldBy b h s = HeldBy (λ (g : IrqGrant). g.client) h ((facts_in b).irq s)
