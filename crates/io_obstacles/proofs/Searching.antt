-- A search from one multiple of the step to the next that may be free, whatever bars a base. Assumes nothing.
use Rattle.facts.proofs.Words.{◌≡◌, subst, inl, inr, ⊎_elim, Bool, true, ℕ, ◌+◌, ◌-◌, ◌≤◌, ◌<◌, dec_lt, arith}
use Rattle.io_obstacles.specs.{around, Multiple, FirstMultiple, Bars, LiesInBars, grant_places, gap_places, BarredBy, Leaps, Opened}

-- every multiple from one base on and before another is barred
abbrev pub AllBarred : (ℕ → Type 0) → ℕ → ℕ → ℕ → Type 0
AllBarred Bar step from to = (y : ℕ) → Multiple step y → from ≤ y → y < to → Bar y

-- up to as far as a leap goes
pub leap_barred : {Bar : ℕ → Type 0} (step x r : ℕ) → Leaps Bar x r → AllBarred Bar step x (x + r)
leap_barred {Bar} step x r l y m f h =
    let here : x + (y - x) ≡ y = omega arith in subst Bar here (l.each (y - x) (omega arith))

module _ (Bar : ℕ → Type 0) (step from : ℕ) where
  -- the search has come to a multiple: every one before it is barred
  pub record Gone (base : ℕ) : Type 0 where
    pub multiple : Multiple step base
    pub past : from ≤ base
    pub near : base ≤ around + around
    pub barred : AllBarred Bar step from base

  pub gone_start : Multiple step from → from ≤ around + around → Gone from
  gone_start m l = record { multiple = m; past = omega arith; near = l; barred = λ y n f h. absurd (omega arith) }

  module _ (base : ℕ) (g : Gone base) where
    -- from one that is barred, it leaps to the first past the end
    pub gone_on : (far next : ℕ) → base ≤ far → AllBarred Bar step base far → FirstMultiple far step next → next ≤ around + around → Gone next
    gone_on far next on all up l =
        record {
          multiple = up.multiple;
          past = omega (arith, g.past, up.past);
          near = l;
          barred = λ y m f h. below_or_not y m f h (dec_lt y base) (dec_lt y far);
        }
      where
        below_or_not : (y : ℕ) → Multiple step y → from ≤ y → y < next → Dec (y < base) → Dec (y < far) → Bar y
        below_or_not y m f h (yes k) d = g.barred y m f k
        below_or_not y m f h (no k) (yes n) = all y m (omega arith) n
        below_or_not y m f h (no k) (no n) = absurd (omega (arith, up.first y m (omega arith)))

    -- or along to another one
    pub gone_along : (next : ℕ) → base ≤ next → AllBarred Bar step base next → Multiple step next → next ≤ around + around → Gone next
    gone_along next on all m l =
        record {
          multiple = m;
          past = omega (arith, g.past);
          near = l;
          barred = λ y n f h. below_or_not y n f h (dec_lt y base);
        }
      where
        below_or_not : (y : ℕ) → Multiple step y → from ≤ y → y < next → Dec (y < base) → Bar y
        below_or_not y n f h (yes k) = g.barred y n f k
        below_or_not y n f h (no k) = all y n (omega arith) h

    pub gone_free : (count end : ℕ) → (Bar base → ⊥) → Opened Bar step count from end base
    gone_free count end n = record { multiple = g.multiple; past = g.past; near = g.near; barred = g.barred; free = λ _. n }

    pub gone_past : (count end : ℕ) → end < base + count → Opened Bar step count from end base
    gone_past count end h = record { multiple = g.multiple; past = g.past; near = g.near; barred = g.barred; free = λ l. absurd (omega arith) }

-- what one predicate bars, another that says less bars too
pub gone_as : {Bar Bar' : ℕ → Type 0} (step from base : ℕ) → ((x : ℕ) → Bar x → Bar' x) → Gone Bar step from base → Gone Bar' step from base
gone_as step from base so g = record { multiple = g.multiple; past = g.past; near = g.near; barred = λ y m f l. so y (g.barred y m f l) }

-- the farthest of the grants' bars, or else of the gaps'
module _ {grants : Bars grant_places} (gaps : Bars gap_places) (counted : Bool) {limit x d : ℕ} (l : Leaps (LiesInBars grants limit) x d) where
  pub leap_grants : (d ≡ 0 → ⊥) → Leaps (BarredBy grants gaps counted limit) x d
  leap_grants n = record { none = λ z. absurd (n z); each = λ e h. inl (l.each e h); most = l.most }

  pub leap_gaps : {r : ℕ} → d ≡ 0 → Leaps (λ y. (counted ≡ true) × LiesInBars gaps limit y) x r → Leaps (BarredBy grants gaps counted limit) x r
  leap_gaps z m = record { none = λ q. ⊎_elim (l.none z) (m.none q); each = λ e h. inr (m.each e h); most = m.most }
