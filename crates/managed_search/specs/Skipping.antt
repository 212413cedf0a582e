-- Where a search among the ranges begins. Assumes nothing.
use Rattle.std.specs.Prelude.{List, ℕ, ◌≤◌, ◌<◌}
use Rattle.facts.specs.Ports.{Within}
use Rattle.layout.specs.Reading.{ranges_in}
use Rattle.layout.specs.Sound.{range_base, range_count}

-- none of the ranges listed before the place i has the port p
pub record Skipped (b : List ℕ) (p i : ℕ) : Type 0 where
  pub listed : i ≤ ranges_in b
  pub clear : (j : ℕ) → j < i → Within p (range_base b j) (range_count b j) → ⊥
