-- A level that is named by its number. Assumes nothing.
use Rattle.std.specs.Prelude.{◌≡◌, ℕ, ◌≤◌, ◌<◌, Result, Ok, Err}
use Rattle.facts.specs.declared.Code.{Code}
use Rattle.facts.specs.declared.Code.TheVariants.{BadIrq}
use Rattle.facts.specs.Table

-- the number is that of one of a table's levels, or it is over them: "Level over 15 BAD_IRQ"
abbrev pub LevelIs : ℕ → Result ℕ Code → Type 0
LevelIs n (Ok l) = (l ≡ n) × (n < Table.all_levels)
LevelIs n (Err k) = (k ≡ BadIrq) × (Table.all_levels ≤ n)
