-- IRQ levels: the manners, and which go together. Assumes nothing.
use Rattle.std.specs.Prelude.{◌≡◌, ◌≢◌, ℕ}
use Rattle.std.proofs.Math.Option.{some}
use Rattle.facts.specs.declared.Manner.{Manner}
use Rattle.facts.specs.declared.Manner.TheVariants.{Exclusive, TimeMultiplexed, DynamicLevel, DynamicPulse}
use Rattle.facts.specs.Table.{Facts, Seat, IrqGrant}

-- "Two manners go together by a four by four table: only equal ones, and never exclusive."
pub record Together (a b : Manner) : Type 0 where
  pub equal : a ≡ b
  pub shares : a ≢ Exclusive

-- the types of a request's bits 0 to 1 (5.53)
abbrev pub exclusive_type : ℕ
exclusive_type = 0

abbrev pub time_multiplexed_type : ℕ
time_multiplexed_type = 1

abbrev pub dynamic_type : ℕ
dynamic_type = 2

-- a manner's type
abbrev pub type_of : Manner → ℕ
type_of Exclusive = exclusive_type
type_of TimeMultiplexed = time_multiplexed_type
type_of DynamicLevel = dynamic_type
type_of DynamicPulse = dynamic_type

-- the grant g at a seat is a live grant of the level l
pub record Holds (F : Facts) (l : ℕ) (s : Seat) (g : IrqGrant) : Type 0 where
  pub live : F.irq s ≡ some g
  pub at : g.level ≡ l
