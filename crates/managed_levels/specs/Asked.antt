-- What is asked of managed levels: the answers of the checks, and what comes next. Assumes nothing.
use Rattle.std.specs.Prelude.{◌≡◌, List, true, ℕ, ◌≤◌, Option, Some, None, Result}
use Rattle.facts.specs.declared.Code.{Code}
use Rattle.facts.specs.Table.{Facts}
use Rattle.facts.specs.Choice.{Lowest}
use Rattle.facts.specs.Resources.{add_level_checks, remove_level_checks, level_added, level_removed}
use Rattle.layout.specs.Sound.{Accepted}
use Rattle.managed_changes.specs.Changing.{Changes}

-- Add and Remove
abbrev pub AddsLevel : {T : Type 0} → ℕ → ℕ → List ℕ → List ℕ → Result T Code → Type 0
AddsLevel l attributes = Changes (λ (F : Facts). add_level_checks F l attributes) (λ (F : Facts). level_added F l attributes)

abbrev pub RemovesLevel : {T : Type 0} → ℕ → ℕ → List ℕ → List ℕ → Result T Code → Type 0
RemovesLevel l attributes = Changes (λ (F : Facts). remove_level_checks F l attributes) (λ (F : Facts). level_removed F l)

-- the lowest managed level that isn't below the number, or there is none
abbrev pub NextLevelIs : List ℕ → ℕ → Option ℕ → Type 0
NextLevelIs b from (Some l) = (a : Accepted b) → Lowest (λ l. ((a.facts.level l).managed ≡ true) × (from ≤ l)) l
NextLevelIs b from None = (a : Accepted b) (l : ℕ) → (a.facts.level l).managed ≡ true → from ≤ l → ⊥
