-- Bars, and which bases lie in them. Assumes nothing.
use Rattle.std.specs.Prelude.{ℕ, ◌<◌, ◌≤◌, slice_index}
use Rattle.io_obstacles.specs.Powers.{LiesFrom}
use Rattle.io_obstacles.specs.declared.rows.Bar.{Bar}
use Rattle.io_obstacles.specs.declared.rows.Bars.{Bars}

-- the base x lies in the bar
abbrev pub LiesInBar : Bar → ℕ → Type 0
LiesInBar bar = LiesFrom bar.start bar.ones bar.width

-- x lies in the bar, if its period is at most limit + 1
abbrev pub LiesShort : Bar → ℕ → ℕ → Type 0
LiesShort bar limit x = (bar.ones ≤ limit) × LiesInBar bar x

-- the bar in the place i
abbrev pub bar_at : {N : ℕ} → Bars N → ℕ → Bar
bar_at bars i = record { start = slice_index bars.start i; ones = slice_index bars.ones i; width = slice_index bars.width i }

-- x lies in one of the first n bars, of those whose period is at most limit + 1
pub record LiesInFirst {N : ℕ} (bars : Bars N) (limit n x : ℕ) : Type 0 where
  pub place : ℕ
  pub below : place < n
  pub short : (bar_at bars place).ones ≤ limit
  pub lies : LiesInBar (bar_at bars place) x

-- or in one of all
abbrev pub LiesInBars : {N : ℕ} → Bars N → ℕ → ℕ → Type 0
LiesInBars {N} bars limit = LiesInFirst bars limit N
