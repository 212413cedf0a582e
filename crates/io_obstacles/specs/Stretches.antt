-- Stretches of bases that are known to be barred, and how a search learns them. What bars a base is a predicate here, which says nothing of tables.
-- Assumes nothing.
use Rattle.std.specs.Prelude.{◌≡◌, ℕ, ◌+◌, ◌%◌, ◌≤◌, Bool, true, ◌⊎◌}
use Rattle.facts.specs.Table
use Rattle.io_obstacles.specs.Powers.{around, Power, Multiple, LiesFrom}
use Rattle.io_obstacles.specs.declared.stretches.Stretch.{Stretch}

-- the base x lies in the stretch
abbrev pub Lies : Stretch → ℕ → Type 0
Lies s = LiesFrom s.start s.ones s.width

-- a stretch whose period is a power of two, and whose numbers are not too large
pub record StretchFits (s : Stretch) : Type 0 where
  pub start : s.start ≤ around
  pub period : Power (s.ones + 1)
  pub width : s.width ≤ around

-- a stretch in which every multiple of the step is barred
pub record Barring (Bar : ℕ → Type 0) (step : ℕ) (known : Stretch) : Type 0 where
  pub fits : StretchFits known
  pub barred : (x : ℕ) → Multiple step x → Lies known x → Bar x

-- what is barred is so again after each period
abbrev pub Repeats : (ℕ → Type 0) → ℕ → Type 0
Repeats Bar period = (x y : ℕ) → x % period ≡ y % period → Bar x → Bar y

-- what is learnt of a search that went from one base to another and found none free: the stretch between them, or what was known before
pub record StretchBetween (from to period : ℕ) (r : Stretch) : Type 0 where
  pub start : r.start ≡ from
  pub ones : r.ones + 1 ≡ period
  pub ends : from + r.width ≤ to
  pub within : from + r.width ≤ Table.all_ports

abbrev pub LearntIs : Stretch → ℕ → ℕ → ℕ → Stretch → Type 0
LearntIs known from to period r = (r ≡ known) ⊎ StretchBetween from to period r

-- a yes says that every base lies in the stretch, and a no says nothing
abbrev pub Everywhere : Stretch → Bool → Type 0
Everywhere s r = r ≡ true → (x : ℕ) → Lies s x
