-- The search past the bars of grants and gaps. Assumes nothing.
use Rattle.std.specs.Prelude.{◌≡◌, ℕ, ◌+◌, ◌<◌, ◌≤◌, ◌⊎◌, Bool, true}
use Rattle.facts.specs.Table
use Rattle.io_obstacles.specs.declared.rows.Bars.{Bars}
use Rattle.io_obstacles.specs.declared.Wanted.{Wanted}
use Rattle.io_obstacles.specs.declared.Search.{Search}
use Rattle.io_obstacles.specs.declared.Reached.{Reached}
use Rattle.io_obstacles.specs.Powers.{around, Multiple}
use Rattle.io_obstacles.specs.Rows.{LiesInBars}
use Rattle.io_obstacles.specs.Stretches.{Barring}

-- places for the bars of grants, and for those of gaps
abbrev pub grant_places : ℕ
grant_places = Table.most_seats

abbrev pub gap_places : ℕ
gap_places = Table.most_ranges

-- a grant's bar has the base, or, if gaps count, a gap's: of those whose periods are at most limit + 1
abbrev pub BarredBy : Bars grant_places → Bars gap_places → Bool → ℕ → ℕ → Type 0
BarredBy grants gaps counted limit x = LiesInBars grants limit x ⊎ ((counted ≡ true) × LiesInBars gaps limit x)

abbrev pub BarredFor : Bars grant_places → Bars gap_places → Wanted → ℕ → Type 0
BarredFor grants gaps w = BarredBy grants gaps w.gaps w.limit

abbrev pub Barred : Search → ℕ → Type 0
Barred s = BarredFor s.grants.now s.gaps.now s.wanted

-- the search from one multiple of the step on: every multiple before r is barred, and r isn't where its ports end at or before `end`
pub record Opened (Bar : ℕ → Type 0) (step count from end r : ℕ) : Type 0 where
  pub multiple : Multiple step r
  pub past : from ≤ r
  pub near : r ≤ around + around
  pub barred : (y : ℕ) → Multiple step y → from ≤ y → y < r → Bar y
  pub free : r + count ≤ end → Bar r → ⊥

-- where the search came to, and that what it knows is barred
pub record OpenedIs (s : Search) (from end : ℕ) (r : Reached) : Type 0 where
  pub opened : Opened (Barred s) s.wanted.step s.wanted.count from end r.base
  pub known : Barring (Barred s) s.wanted.step r.known
