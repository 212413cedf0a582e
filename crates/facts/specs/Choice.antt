-- The first of those that fit. Assumes nothing.
use Rattle.std.specs.Prelude.{◌⊎◌, ◌↔◌, ℕ, ◌≤◌}

-- x comes before y: early ones before others, then the lowest
abbrev pub Before : (ℕ → Type 0) → ℕ → ℕ → Type 0
Before Early x y = (Early x × (Early y → ⊥)) ⊎ ((Early x ↔ Early y) × (x ≤ y))

-- of all that fit, x comes first
pub record Chosen (Fit Early : ℕ → Type 0) (x : ℕ) : Type 0 where
  pub fits : Fit x
  pub first : (y : ℕ) → Fit y → Before Early x y

-- of all that fit, x is the lowest
pub record Lowest (Fit : ℕ → Type 0) (x : ℕ) : Type 0 where
  pub fits : Fit x
  pub least : (y : ℕ) → Fit y → x ≤ y
