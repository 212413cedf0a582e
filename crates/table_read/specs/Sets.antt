-- Sets of numbers: a bit for each. Assumes nothing.
use Rattle.std.specs.Prelude.{◌≡◌, ℕ, ◌<◌}
use Rattle.facts.specs.Packets.{bit}

-- the set has each number that P says
abbrev pub Covers : ℕ → (ℕ → Type 0) → Type 0
Covers set P = (k : ℕ) → P k → bit set k ≡ 1

-- the set has just the numbers that P says
pub record HasJust (set : ℕ) (P : ℕ → Type 0) : Type 0 where
  pub has : Covers set P
  pub only : (k : ℕ) → bit set k ≡ 1 → P k

-- what P says of some number below n
abbrev pub SomeBelow : ℕ → (ℕ → ℕ → Type 0) → ℕ → Type 0
SomeBelow n P k = (s : ℕ) × (s < n) × P s k
