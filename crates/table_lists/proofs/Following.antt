-- Ranges that follow one another are sound where the last lies within the ports: what a loop that passes them knows. Assumes nothing.
use Rattle.facts.proofs.Words.{◌≡◌, refl, sym, ap, ◌∙◌, Bool, List, ℕ, zero, suc, ◌+◌, ◌≤◌, ◌<◌, dec_lt, arith, bit_or, eqb, eq-eqb, Says, by_cases}
use Rattle.facts.specs.{all_ports, Bytes}
use Rattle.facts.proofs.{says_as}
use Rattle.layout.specs.{ranges_in, range_place, RangesSound, range_base, range_count, end_before_lem}
use Rattle.layout.proofs.{end_next}
use Rattle.table_read.proofs.{All, all_none, all_more, Flawless, flawless_none, flawless_more}
use Rattle.table_lists.specs.{RangeFollows, RangeMarked}

-- the first i ranges follow one another, the last of them ends at low, and what is wrong with their marks is 0 exactly if nothing is
pub record Passed (b : List ℕ) (low flaws i : ℕ) : Type 0 where
  pub within : i ≤ ranges_in b
  pub last : low ≡ end_before_lem b i
  pub follow : All i (λ k. RangeFollows b (end_before_lem b k) k)
  pub marked : Flawless (RangeMarked b) i flaws

module _ (b : List ℕ) where
  pub passed_none : Passed b 0 0 0
  passed_none = record { within = omega arith; last = refl; follow = all_none _; marked = flawless_none _ }

  module _ (low flaws i : ℕ) (p : Passed b low flaws i) where
    pub passed_more : (next flaw : ℕ) → i < ranges_in b → RangeFollows b low i → Says (eqb flaw 0) (RangeMarked b i)
        → next ≡ range_base b i + range_count b i
        → Passed b next (bit_or flaws flaw) (i + 1)
    passed_more next flaw l f m e =
        record {
          within = omega arith;
          last = e ∙ sym (end_next b i);
          follow = all_more {P = λ k. RangeFollows b (end_before_lem b k) k} p.follow
              (record { from = omega (arith, p.last, f.from); port = f.port });
          marked = flawless_more flaw p.marked m;
        }

    -- a range that is sound follows those passed
    pub sound_follows : i < ranges_in b → RangesSound b → RangeFollows b low i
    sound_follows l s = record { from = omega (arith, p.last, (s i l).from); port = (s i l).port }

    pub sound_within : RangesSound b → low ≤ all_ports
    sound_within s = omega (arith, p.last, ends i p.within)
      where
        ends : (k : ℕ) → k ≤ ranges_in b → end_before_lem b k ≤ all_ports
        ends zero l = omega arith
        ends (suc k) l = (s k (omega arith)).within

    -- each but the last ends at or before a port, since another follows it
    pub flawless_says_sound : i ≡ ranges_in b → Bytes b → low ≤ all_ports → Says (eqb flaws 0) (RangesSound b)
    flawless_says_sound e known h =
        says_as p.marked.says
        (λ m k l. let f = p.follow k (omega arith) in record { from = f.from; port = f.port; within = ends k l; mark = m k (omega arith) })
        (λ s k l. (s k (omega arith)).mark)
      where
        ends : (k : ℕ) → k < ranges_in b → range_base b k + range_count b k ≤ all_ports
        ends k l =
            by_cases (dec_lt (k + 1) i)
            (λ n. omega (arith, end_next b k, (p.follow (k + 1) n).from, known (range_place (k + 1)), known (range_place (k + 1) + 1)))
            (λ n. let at : k + 1 ≡ i = omega arith in omega (arith, end_next b k, ap (end_before_lem b) at, p.last, h))

    pub passed_says : {r : Bool} → i ≡ ranges_in b → Bytes b → flaws ≡ 0 → Says r (low ≤ all_ports) → Says r (RangesSound b)
    passed_says e known none s = says_as s (λ h. (flawless_says_sound e known h).holds (eq-eqb flaws 0 none)) sound_within
