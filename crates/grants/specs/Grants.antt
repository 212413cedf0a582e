-- Whether a seat's grant is a client's. Assumes nothing.
use Rattle.std.specs.Prelude.{◌≡◌, ℕ, Result, Ok, Err}
use Rattle.facts.specs.declared.Code.{Code}
use Rattle.facts.specs.declared.Code.TheVariants.{BadIrq}
use Rattle.facts.specs.declared.Manner.{Manner}
use Rattle.facts.specs.Table.{Facts, Seat, IrqGrant}
use Rattle.facts.specs.Irq.{IrqHeld}

-- the client h holds the level l at the seat, in this manner; or it doesn't
abbrev pub LevelOf : Facts → ℕ → Seat → ℕ → Result Manner Code → Type 0
LevelOf F h s l (Ok m) = IrqHeld F h s l (record { client = h; level = l; manner = m })
LevelOf F h s l (Err k) = (k ≡ BadIrq) × ((g : IrqGrant) → IrqHeld F h s l g → ⊥)
