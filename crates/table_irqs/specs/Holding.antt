-- What keeps two IRQ grants from company is a level that one holds in a manner that doesn't go with the other's. A level and a manner are one number, and a
-- set of such numbers has a bit for each. Assumes nothing.
use Rattle.std.specs.Prelude.{◌≡◌, List, ℕ, ◌+◌, ◌*◌, ◌≤◌}
use Rattle.facts.specs.Table.{Seat}
use Rattle.facts.specs.Packets.{byte}
use Rattle.facts.specs.Levels.{Together}
use Rattle.layout.specs.Reading.{irq_place_lem, manner_of_lem}
use Rattle.layout.specs.Sound.{IrqUsed}
use Rattle.layout.specs.Layout.{irq_level_at, irq_manner_at}
use Rattle.table_read.specs.Sets.{HasJust, SomeBelow}
use Rattle.table_irqs.specs.declared.Holding.{Holding}

-- the number of a level and a manner
abbrev pub held_as : ℕ → ℕ → ℕ
held_as level manner = level * 4 + manner

-- the IRQ grant at the seat s holds its level in its manner
pub record HoldsAs (b : List ℕ) (s : Seat) (k : ℕ) : Type 0 where
  pub used : IrqUsed b s
  pub number : held_as (byte b (irq_place_lem s + irq_level_at)) (byte b (irq_place_lem s + irq_manner_at)) ≡ k

-- so does that at some seat below n
abbrev pub HeldBelow : List ℕ → ℕ → ℕ → Type 0
HeldBelow b n = SomeBelow n (HoldsAs b)

-- the level of the IRQ grant at the seat s, in a manner that doesn't go with its own
pub record Against (b : List ℕ) (s : Seat) (k : ℕ) : Type 0 where
  pub used : IrqUsed b s
  pub manner : ℕ
  pub last : manner ≤ 3
  pub apart : Together (manner_of_lem (byte b (irq_place_lem s + irq_manner_at))) (manner_of_lem manner) → ⊥
  pub number : held_as (byte b (irq_place_lem s + irq_level_at)) manner ≡ k

-- the sets that say what is held at the seat s
pub record HoldingIs (b : List ℕ) (s : Seat) (h : Holding) : Type 0 where
  pub own : HasJust h.own (HoldsAs b s)
  pub against : HasJust h.against (Against b s)
