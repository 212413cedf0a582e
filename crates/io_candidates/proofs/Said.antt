-- The bytes say which bases are candidates, and which of these lie wholly in unreserved ranges; so the two searches give the candidate that is
-- taken. Assumes nothing.
use Rattle.facts.proofs.Words.{◌≡◌, refl, ap, sym, ◌∙◌, subst, ◌⊎◌, inl, inr, ⊎_elim, List, false, false≢true, ℕ, zero, suc, ◌+◌, ◌-◌, ◌*◌, ◌≤◌, ◌<◌, dec_lt, arith, eqb-false}
use Rattle.facts.proofs.Words.{ne_eqb}
use Rattle.layout.proofs.Of
use Rattle.facts.specs.{MeetsHeld, IoAsked, Range, Has, Managed, Answers, WhollyUnreserved, ports_at, SmallestPower, Candidate, CandidateTaken}
use Rattle.facts.specs.{most_lines, Facts}
use Rattle.facts.proofs.{Unreserved, wholly_unreserved_told, chosen_first, chosen_then, smallest_power_unique}
use Rattle.layout.specs.{ranges_in, range_in, marked, Accepted, RangesSound}
use Rattle.layout.proofs.{HasPort}
use Rattle.table_read.proofs.{All}
use Rattle.io_ranges.proofs.{answers_own}
use Rattle.io_answering.proofs.{clear_answers, answers_clear}
use Rattle.std.specs.Prelude.{Option, Some, None, IsSome}
use Rattle.io_answering.specs.{MeetsGap}
use Rattle.io_candidates.specs.{reserve_mark, Counts, SomeMarked, Free, CandidateIn, LowestIs, FirstIs}
use Rattle.io_candidates.proofs.Choosing.{lowest_as}
use Rattle.io_candidates.proofs.Runs.{counts_below}

-- what bars a base at which the ports are asked for is a live grant that they meet, or a gap
abbrev pub BarsOnly : List ℕ → Facts → IoAsked → (ℕ → Type 0) → Type 0
BarsOnly b F q Bar = (x : ℕ) → Bar x → MeetsHeld F (ports_at q x) ⊎ MeetsGap b (ports_at q x)

-- and each of these does: a gap, where the card doesn't decode all lines
pub record BarsAll (b : List ℕ) (F : Facts) (q : IoAsked) (Bar : ℕ → Type 0) : Type 0 where
  pub held : (x : ℕ) → MeetsHeld F (ports_at q x) → Bar x
  pub gap : q.lines < most_lines → (x : ℕ) → MeetsGap b (ports_at q x) → Bar x

module _ (b : List ℕ) (a : Accepted b) where
  ordered : RangesSound b
  ordered = (Of.sound_in b a).ranges

  -- what a range's record says
  reserved_is : (i : ℕ) → (range_in b i).reserved ≡ marked (reserve_mark b i)
  unfolding range_in
  reserved_is i = refl

  has_said : (i q : ℕ) → HasPort b i q → Has (range_in b i) q
  unfolding range_in
  has_said i q w = w

  said_has : (i q : ℕ) → Has (range_in b i) q → HasPort b i q
  unfolding range_in
  said_has i q w = w

  -- a port that counts is managed, by the range that has it
  abbrev managed_by : (most q : ℕ) → Counts b most q → Managed a.facts q
  managed_by most q c =
      record { range = range_in b c.range; listed = Of.range_listed b a c.range c.listed; has = has_said c.range q c.has }

  -- among all ranges a port counts exactly if it is managed
  managed_counts : (q : ℕ) → Managed a.facts q → Counts b 1 q
  managed_counts q m =
      let x = Of.said_managed b a q m in
      record { range = x.0; listed = x.1; mark = (ordered x.0 x.1).mark; has = x.2 }

  -- among the unreserved ranges alone exactly if one of them has it
  counts_unreserved : (q : ℕ) → Counts b 0 q → Unreserved a.facts q
  counts_unreserved q c = (
    managed_by 0 q c,
    reserved_is c.range ∙ ne_eqb (reserve_mark b c.range) 1 (λ e. omega (arith, e, c.mark)),
  )

  unreserved_counts : (q : ℕ) → Unreserved a.facts q → Counts b 0 q
  unreserved_counts q u = of_each (Of.listed_range b a u.0.range u.0.listed)
    where
      of_each : (i : ℕ) × (i < ranges_in b) × (u.0.range ≡ range_in b i) → Counts b 0 q
      of_each x =
          let unmarked : marked (reserve_mark b x.0) ≡ false =
          sym (reserved_is x.0) ∙ sym (ap (λ (r : Range). r.reserved) x.2) ∙ u.1 in
          record {
            range = x.0;
            listed = x.1;
            mark = omega (arith, (ordered x.0 x.1).mark, eqb-false (reserve_mark b x.0) 1 unmarked);
            has = said_has x.0 q (subst (λ (r : Range). Has r q) x.2 u.0.has);
          }

  module _ (q : IoAsked) (step : ℕ) (align : SmallestPower q.count step) (one : 1 ≤ q.count) (lines : q.lines ≤ most_lines) (Bar : ℕ → Type 0) where
    abbrev Search : ℕ → ℕ → Type 0
    Search most = CandidateIn b Bar most q.count step

    abbrev Early : ℕ → Type 0
    Early x = WhollyUnreserved a.facts x q.count

    -- what bars a base is a live grant or a gap: then a candidate is one by the bytes, where all ranges count
    module _ (only : BarsOnly b a.facts q Bar) where
      pub candidate_free : (x : ℕ) → Candidate a.facts q x → Free Bar step x
      candidate_free x c =
          record {
            multiple = record {
              times = c.times;
              is = subst (λ (n : ℕ). x ≡ c.times * n) (smallest_power_unique q.count c.step step c.align align) c.multiple;
            };
            unbarred = λ y.
                ⊎_elim (λ m. c.meets_none m.seat m.range m.held m.meets)
                (λ m. answers_clear b ordered (ports_at q x) lines (λ p w. Of.said_managed b a p (c.answers p w)) m) (only x y);
          }

      pub candidate_found : (x : ℕ) → Candidate a.facts q x → Search 1 x
      candidate_found x c =
          record { free = candidate_free x c; positive = c.positive; counted = λ p w. managed_counts p (c.managed p w) }

      -- and one that lies wholly in unreserved ranges, where these alone count
      early_found : (x : ℕ) → Candidate a.facts q x × Early x → Search 0 x
      early_found x c =
          record { free = candidate_free x c.0; positive = c.0.positive; counted = λ p w. unreserved_counts p (c.1 p w) }

      -- every live grant and, where a card doesn't decode all lines, every gap bars its bases: then what is found is a candidate
      module _ (all : BarsAll b a.facts q Bar) where
        -- wherever its card answers is managed: no gap bars it, or it decodes all lines and answers at its own ports alone
        found_answers : (most x : ℕ) → Search most x → (p : ℕ) → Answers (ports_at q x) p → Managed a.facts p
        found_answers most x c p y = below_or_not (dec_lt q.lines most_lines)
          where
            below_or_not : Dec (q.lines < most_lines) → Managed a.facts p
            below_or_not (yes l) = Of.managed_said b a p (clear_answers b ordered (ports_at q x) lines (λ m. c.free.unbarred (all.gap l x m)) p y)
            below_or_not (no l) =
                let own = c.counted y.own y.own_in in
                let every : q.lines ≡ most_lines = omega arith in
                subst (Managed a.facts) (sym (answers_own (ports_at q x) every p y (counts_below b ordered most y.own own)))
                (managed_by most y.own own)

        found_candidate : (most x : ℕ) → Search most x → Candidate a.facts q x
        found_candidate most x c =
            record {
              step = step;
              times = c.free.multiple.times;
              align = align;
              multiple = c.free.multiple.is;
              positive = c.positive;
              managed = λ p w. managed_by most p (c.counted p w);
              answers = found_answers most x c;
              within =
                  let last = c.counted (x + q.count - 1) (record { from = omega arith; below = omega arith }) in
                  omega (arith, counts_below b ordered most (x + q.count - 1) last);
              meets_none = λ s g e m. c.free.unbarred (all.held x (record { seat = s; range = g; held = e; meets = m }));
            }

        found_early : (x : ℕ) → Search 0 x → Candidate a.facts q x × Early x
        found_early x c = (found_candidate 0 x c, λ p w. counts_unreserved p (c.counted p w))

        -- the lowest of these is taken, or else the lowest of all
        pub first_taken : (x : ℕ) → FirstIs b Bar q.count step (Some x) → CandidateTaken a.facts q x
        first_taken x (inl low) =
            chosen_first (λ y _. wholly_unreserved_told a.facts y q.count) (lowest_as found_early early_found (Some x) low)
        first_taken x (inr late) =
            chosen_then (λ y c e. late.0 y (early_found y (c, e))) (lowest_as (found_candidate 1) candidate_found (Some x) late.1)

-- the two searches, one after the other
module _ (b : List ℕ) (Bar : ℕ → Type 0) (count step : ℕ) where
  abbrev Found : ℕ → ℕ → Type 0
  Found most = CandidateIn b Bar most count step

  pub first_by : (most : ℕ) → most < 2 → All most (λ m. (x : ℕ) → Found m x → ⊥) → (r : Option ℕ) → IsSome r → LowestIs (Found most) r
      → FirstIs b Bar count step r
  first_by most l none None found low = absurd (false≢true found)
  first_by zero l none (Some x) found low = inl low
  first_by (suc zero) l none (Some x) found low = inr (none 0 (omega arith), low)
  first_by (suc (suc most)) l none (Some x) found low = absurd (omega arith)

  -- where no range has a mark, or a higher one, those with lower marks are all
  pub none_marked : (most : ℕ) → (SomeMarked b most → ⊥) → All most (λ m. (x : ℕ) → Found m x → ⊥) → 1 ≤ count → (x : ℕ) → Found 1 x → ⊥
  none_marked zero n none one x c =
      let p = c.counted x (record { from = omega arith; below = omega arith }) in n (record { range = p.range; listed = p.listed; marked = omega arith })
  none_marked (suc most) n none one x c =
      none most (omega arith) x
      (record {
        free = c.free;
        positive = c.positive;
        counted = λ p w. let k = c.counted p w in record { range = k.range; listed = k.listed; mark = lower k.range k.listed; has = k.has };
      })
    where
      lower : (i : ℕ) → i < ranges_in b → reserve_mark b i ≤ most
      lower i l = within_or_not (dec_lt most (reserve_mark b i))
        where
          within_or_not : Dec (most < reserve_mark b i) → reserve_mark b i ≤ most
          within_or_not (yes h) = absurd (n (record { range = i; listed = l; marked = omega arith }))
          within_or_not (no h) = omega arith
