-- The lowest candidate: past what live grants and gaps bar, in one range, and over the ranges in order. Assumes nothing.
use Rattle.facts.proofs.Words.{◌≡◌, subst, false≢true, List, ℕ, ◌+◌, ◌-◌, ◌≤◌, ◌<◌, max, dec_lt, dec_le, arith}
use Rattle.layout.specs.{ranges_in, RangesSound, range_base}
use Rattle.layout.proofs.{range_end, ends_before}
use Rattle.table_read.proofs.{All}
use Rattle.io_obstacles.specs.{FirstMultiple, Opened}
use Rattle.std.specs.Prelude.{Option, Some, None, IsSome}
use Rattle.io_candidates.specs.{ReachIs, FreeBetween, CandidateIn, StartsIn, LowestIs, Counts}
use Rattle.io_candidates.proofs.Choosing.{lowest_as}
use Rattle.io_candidates.proofs.Runs.{counts_alike}

-- the lowest that is not barred, past what a search leapt over
module _ (Bar : ℕ → Type 0) (count step from end x : ℕ) (o : Opened Bar step count from end x) where
  abbrev Fit : ℕ → Type 0
  Fit = FreeBetween Bar count step from end

  not_before : (y : ℕ) → Fit y → x ≤ y
  not_before y f = below_or_not (dec_lt y x)
    where
      below_or_not : Dec (y < x) → x ≤ y
      below_or_not (yes l) = absurd (f.free.unbarred (o.barred y f.free.multiple f.past l))
      below_or_not (no l) = omega arith

  pub open_found : x + count ≤ end → LowestIs Fit (Some x)
  open_found h =
      record {
        fits = record { free = record { multiple = o.multiple; unbarred = o.free h }; past = o.past; before = h };
        least = not_before;
      }

  pub open_none : end < x + count → LowestIs Fit None
  open_none h y f = omega (arith, not_before y f, f.before)

-- no candidate starts in the range k
abbrev pub NoneIn : List ℕ → (ℕ → Type 0) → ℕ → ℕ → ℕ → ℕ → Type 0
NoneIn b Bar most count step k = (y : ℕ) → StartsIn b Bar k most count step y → ⊥

module _ (b : List ℕ) (s : RangesSound b) (Bar : ℕ → Type 0) (most count step : ℕ) (h : 1 ≤ count) where
  -- those that start in the range i are those between its first multiple and where the ports that count end
  module _ (i from end : ℕ) (l : i < ranges_in b) (f : FirstMultiple (max (range_base b i) 1) step from)
      (r : ReachIs b i most (range_end b i + count - 1) end)
    where
      between_starts : (x : ℕ) → FreeBetween Bar count step from end x → StartsIn b Bar i most count step x
      between_starts x y =
          record {
            candidate = record {
              free = y.free;
              positive = omega (arith, f.past, y.past);
              counted = λ p w. r.counts p (omega (arith, f.past, y.past, w.from)) (omega (arith, y.before, w.below));
            };
            has = record { from = omega (arith, f.past, y.past); below = omega (arith, y.before, r.wanted) };
          }

      starts_between : (x : ℕ) → StartsIn b Bar i most count step x → FreeBetween Bar count step from end x
      starts_between x y =
          record {
            free = c.free;
            past = f.first x c.free.multiple (omega (arith, y.has.from, c.positive));
            before = each_way (dec_le (x + count) end) (dec_le x end);
          }
        where
          c : CandidateIn b Bar most count step x
          c = y.candidate

          -- else the first port that does not count would be one of its own, or one of the range before it
          each_way : Dec (x + count ≤ end) → Dec (x ≤ end) → x + count ≤ end
          each_way (yes m) d = m
          each_way (no m) (yes k) =
              absurd (r.ends (omega (arith, y.has.below)) (c.counted end (record { from = k; below = omega arith })))
          each_way (no m) (no k) =
              let here : Counts b most x = c.counted x (record { from = omega arith; below = omega arith }) in
              absurd
              (r.ends (omega (arith, y.has.below))
              (counts_alike b s most i x end l y.has (record { from = r.from; below = omega (arith, y.has.below) }) here))

      pub lowest_in : (x : Option ℕ) → LowestIs (FreeBetween Bar count step from end) x → LowestIs (StartsIn b Bar i most count step) x
      lowest_in = lowest_as between_starts starts_between

  abbrev Fits : ℕ → Type 0
  Fits = CandidateIn b Bar most count step

  -- a candidate starts in some range
  starts : (y : ℕ) → Fits y → (k : ℕ) × (k < ranges_in b) × StartsIn b Bar k most count step y
  starts y c =
      let p = c.counted y (record { from = omega arith; below = omega arith }) in
      (p.range, p.listed, record { candidate = c; has = p.has })

  -- where none starts in an earlier range, the lowest in the range i is the lowest of all
  pub lowest_of : (i : ℕ) (r : Option ℕ) → i < ranges_in b → All i (NoneIn b Bar most count step) → IsSome r → LowestIs (StartsIn b Bar i most count step) r
      → LowestIs Fits r
  lowest_of i None l none found low = absurd (false≢true found)
  lowest_of i (Some x) l none found low = record { fits = low.fits.candidate; least = least }
    where
      least : (y : ℕ) → Fits y → x ≤ y
      least y c = let k = starts y c in below_or_not k (dec_lt k.0 i) (dec_lt i k.0)
        where
          below_or_not : (k : (k : ℕ) × (k < ranges_in b) × StartsIn b Bar k most count step y) → Dec (k.0 < i) → Dec (i < k.0) → x ≤ y
          below_or_not k (yes m) d = absurd (none k.0 m y k.2)
          below_or_not k (no m) (yes n) = omega (arith, low.fits.has.below, k.2.has.from, ends_before b s i k.0 n k.1)
          below_or_not k (no m) (no n) =
              let e : k.0 ≡ i = omega arith in
              low.least y (subst (λ (j : ℕ). StartsIn b Bar j most count step y) e k.2)

  pub none_of : (i : ℕ) → ranges_in b ≤ i → All i (NoneIn b Bar most count step) → (y : ℕ) → Fits y → ⊥
  none_of i l none y c = let k = starts y c in none k.0 (omega (arith, k.1)) y k.2
