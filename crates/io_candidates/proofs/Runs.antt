-- The ports that count: a range's ports count together, and from a range's base on they go on over the ranges that follow without a gap.
-- Assumes nothing.
use Rattle.facts.proofs.Words.{◌≡◌, sym, subst, ◌⊎◌, inl, inr, List, ℕ, ◌+◌, ◌≤◌, ◌<◌, eq-or-lt_of_le, dec_lt, arith}
use Rattle.facts.specs.{all_ports}
use Rattle.layout.specs.{ranges_in, RangesSound, range_base}
use Rattle.layout.proofs.{range_end, ends_before, bases_rise, HasPort, same_range}
use Rattle.io_candidates.specs.{reserve_mark, Counts, FollowsOn, ReachIs}

-- a walk that has come to the range j: from the base of the range i on, the ports before `end` count; the ranges before j end there or before, and
-- no later one starts before it
pub record Run (b : List ℕ) (i most j end : ℕ) : Type 0 where
  pub listed : j ≤ ranges_in b
  pub from : range_base b i ≤ end
  pub within : end ≤ all_ports
  pub counts : (p : ℕ) → range_base b i ≤ p → p < end → Counts b most p
  pub ended : (k : ℕ) → k < j → range_end b k ≤ end
  pub ahead : (k : ℕ) → j ≤ k → k < ranges_in b → end ≤ range_base b k

module _ (b : List ℕ) (s : RangesSound b) where
  -- the ports of a range count together, since a port lies in one range
  pub counts_alike : (most i p q : ℕ) → i < ranges_in b → HasPort b i p → HasPort b i q → Counts b most p → Counts b most q
  counts_alike most i p q l v w c =
      record {
        range = i;
        listed = l;
        mark = subst (λ (k : ℕ). reserve_mark b k ≤ most) (same_range b s p c.range i c.listed l c.has v) c.mark;
        has = w;
      }

  -- no port that counts is past FFFF
  pub counts_below : (most p : ℕ) → Counts b most p → p < all_ports
  counts_below most p c = omega (arith, c.has.below, (s c.range c.listed).within)

  pub run_start : (i most : ℕ) → i < ranges_in b → Run b i most i (range_base b i)
  run_start i most l =
      record {
        listed = omega arith;
        from = omega arith;
        within = omega (arith, (s i l).within);
        counts = λ p f h. absurd (omega arith);
        ended = λ k m. ends_before b s k i m l;
        ahead = λ k m n. of_each k n (eq-or-lt_of_le m);
      }
    where
      of_each : (k : ℕ) → k < ranges_in b → (i ≡ k) ⊎ (i < k) → range_base b i ≤ range_base b k
      of_each k n (inl e) = subst (λ (x : ℕ). range_base b i ≤ range_base b x) e (omega arith)
      of_each k n (inr m) = omega (arith, bases_rise b s i k m n)

  module _ (i most j end : ℕ) (run : Run b i most j end) where
    -- one range further
    pub run_more : FollowsOn b j end most → Run b i most (j + 1) (range_end b j)
    run_more f =
        record {
          listed = omega (arith, f.listed);
          from = omega (arith, run.from, f.starts);
          within = (s j f.listed).within;
          counts = λ p h l. counted p h l (dec_lt p end);
          ended = λ k l. end_at k (eq-or-lt_of_le (omega arith));
          ahead = λ k l m. ends_before b s j k (omega arith) m;
        }
      where
        counted : (p : ℕ) → range_base b i ≤ p → p < range_end b j → Dec (p < end) → Counts b most p
        counted p h l (yes m) = run.counts p h m
        counted p h l (no m) =
            record { range = j; listed = f.listed; mark = f.mark; has = record { from = omega (arith, f.starts); below = l } }

        end_at : (k : ℕ) → (k ≡ j) ⊎ (k < j) → range_end b k ≤ range_end b j
        end_at k (inl e) = subst (λ (x : ℕ). range_end b x ≤ range_end b j) (sym e) (omega arith)
        end_at k (inr m) = omega (arith, run.ended k m, f.starts)

    -- where none follows, the port there does not count
    run_ends : (FollowsOn b j end most → ⊥) → Counts b most end → ⊥
    run_ends n c = below_or_above (dec_lt c.range j) (dec_lt j c.range)
      where
        below_or_above : Dec (c.range < j) → Dec (j < c.range) → ⊥
        below_or_above (yes l) d = omega (arith, run.ended c.range l, c.has.below)
        below_or_above (no l) (yes m) =
            omega (
              arith,
              c.has.from,
              bases_rise b s j c.range m c.listed,
              run.ahead j (omega arith) (omega (arith, c.listed)),
            )
        below_or_above (no l) (no m) =
            let e : c.range ≡ j = omega arith in
            let starts : range_base b c.range ≡ end = omega (arith, c.has.from, run.ahead c.range (omega arith) c.listed) in
            n (record {
              listed = omega (arith, c.listed);
              starts = subst (λ (k : ℕ). range_base b k ≡ end) e starts;
              mark = subst (λ (k : ℕ). reserve_mark b k ≤ most) e c.mark;
            })

    pub reach_stopped : (want : ℕ) → end < want → (FollowsOn b j end most → ⊥) → ReachIs b i most want end
    reach_stopped want l n =
        record { from = run.from; wanted = omega arith; within = run.within; counts = run.counts; ends = λ _. run_ends n }
