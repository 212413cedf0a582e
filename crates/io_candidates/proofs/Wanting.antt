-- A search for what is asked: what it finds by the bars is a candidate. Assumes nothing.
use Rattle.facts.proofs.Words.{◌≡◌, refl, subst, inl, inr, Bool, true, false, Says, List, ℕ, ◌≤◌, arith}
use Rattle.std.specs.Prelude.{Option, Some, None}
use Rattle.facts.specs.{IoAsked}
use Rattle.layout.specs.{Accepted}
use Rattle.io_obstacles.specs.{Stretch, Wanted, Bars, Lies, LiesInBars, Barring, grant_places, gap_places, BarredFor}
use Rattle.io_obstacles.proofs.{bars_more}
use Rattle.io_bars.specs.{GapBars}
use Rattle.io_candidates.specs.{FirstIs, Wants, TakenIs}
use Rattle.io_candidates.proofs.Said.{BarsOnly, BarsAll, candidate_free, candidate_found, first_taken}

-- what an answer decides and is so, it says
says_so : (r : Bool) {P : Type 0} → Says r P → P → r ≡ true
says_so true s p = refl
says_so false s p = absurd (s.fails refl p)

module _ (b : List ℕ) (q : IoAsked) (grants : Bars grant_places) (w : Wanted) (wants : Wants b q grants w) where
  port : 1 ≤ q.count
  port = omega (arith, wants.count_is)

  -- where the grants bar every base, nothing is taken
  pub barred_taken : (known : Stretch) → Barring (LiesInBars grants w.limit) w.step known → ((x : ℕ) → Lies known x) → TakenIs b q None
  barred_taken known bars all a x c =
      let free =
      candidate_free b a q w.step wants.align port wants.lines (LiesInBars grants w.limit)
      (λ y l. inl ((wants.grant_bars a).only y (bars_more grants _ _ (omega (arith, wants.limit_is)) y l))) x c in
      free.unbarred (bars.barred x free.multiple (all x))

  -- and else what comes first past the bars of grants and gaps is
  module _ (gaps : Bars gap_places) (gap-bars : GapBars b q.count q.lines gaps) where
    abbrev Bar : ℕ → Type 0
    Bar = BarredFor grants gaps w

    only : (a : Accepted b) → BarsOnly b a.facts q Bar
    only a x (inl l) = inl ((wants.grant_bars a).only x (bars_more grants _ _ (omega (arith, wants.limit_is)) x l))
    only a x (inr l) = inr (gap-bars.only (wants.gaps_count.holds l.0) x (bars_more gaps _ _ (omega (arith, wants.limit_is)) x l.1))

    all : (a : Accepted b) → BarsAll b a.facts q Bar
    all a =
        record {
          held = λ x m. inl (bars_more grants _ _ (omega (arith, wants.limit_is)) x ((wants.grant_bars a).has x m));
          gap = λ few x m. inr (says_so _ wants.gaps_count few, bars_more gaps _ _ (omega (arith, wants.limit_is)) x (gap-bars.has few x m));
        }

    in_count : (r : Option ℕ) → FirstIs b Bar w.count w.step r → FirstIs b Bar q.count w.step r
    in_count r = subst (λ (n : ℕ). FirstIs b Bar n w.step r) wants.count_is

    pub found_taken : (r : Option ℕ) → FirstIs b Bar w.count w.step r → TakenIs b q r
    found_taken (Some x) first = λ a.
        first_taken b a q w.step wants.align port wants.lines Bar (only a) (all a) x (in_count (Some x) first)
    found_taken None none = λ a x c.
        in_count None none x (candidate_found b a q w.step wants.align port wants.lines Bar (only a) x c)
