-- A walk past the managed ports, one range after the other, decides whether a run of ports is managed. Assumes nothing.
use Rattle.facts.proofs.Words.{◌≡◌, sym, ap, subst, ⊎_elim, List, ℕ, ◌+◌, ◌≤◌, ◌<◌, eq-or-lt_of_le, dec_lt, arith, leb-true, leb-false, leb, by_cases}
use Rattle.facts.proofs.Words.{Says}
use Rattle.facts.specs.{Within}
use Rattle.layout.specs.{ranges_in, ManagedIn, RangesSound, range_base, range_count}
use Rattle.layout.proofs.{range_end, ends_before}
use Rattle.managed_search.specs.{Skipped}
use Rattle.table_read.proofs.{All, all_none, all_more}

-- from base on every port before p is managed, and p is in none of the first i ranges
pub record Passed (b : List ℕ) (base p i : ℕ) : Type 0 where
  pub from : base ≤ p
  pub behind : (q : ℕ) → base ≤ q → q < p → ManagedIn b q
  pub clear : All i (λ j. Within p (range_base b j) (range_count b j) → ⊥)

module _ (b : List ℕ) (p : ℕ) where
  pub skipped_none : Skipped b p 0
  skipped_none = record { listed = omega arith; clear = all_none _ }

  -- a range starts at or before p, so those before it end at or before p
  pub skipped_to : (i : ℕ) → RangesSound b → i < ranges_in b → range_base b i ≤ p → Skipped b p i
  skipped_to i s h l = record { listed = omega arith; clear = λ j m v. omega (arith, ends_before b s j i m h, v.below) }

  pub skipped_passed : (i : ℕ) → Skipped b p i → Passed b p p i
  skipped_passed i k = record { from = omega arith; behind = λ q f l. absurd (omega arith); clear = k.clear }

module _ (b : List ℕ) (base p i : ℕ) (g : Passed b base p i) where
  -- the range ends at or before p
  pub passed_stay : range_end b i ≤ p → Passed b base p (i + 1)
  passed_stay h = record { from = g.from; behind = g.behind; clear = all_more g.clear (λ v. omega (arith, v.below)) }

  module _ (s : RangesSound b) (h : i < ranges_in b) (w : Within p (range_base b i) (range_count b i)) where
    behind_end : (q : ℕ) → base ≤ q → q < range_end b i → ManagedIn b q
    behind_end q f l = by_cases (dec_lt q p) (g.behind q f) (λ n. (i, h, omega arith))

    clear_end : All i (λ j. Within (range_end b i) (range_base b j) (range_count b j) → ⊥)
    clear_end j l v = omega (arith, ends_before b s j i l h, v.below)

    pub passed_move : (next : ℕ) → next ≡ range_end b i → Passed b base next (i + 1)
    passed_move next e =
        subst (λ (q : ℕ). Passed b base q (i + 1)) (sym e)
        (record { from = omega arith; behind = behind_end; clear = all_more clear_end (λ v. omega (arith, v.below)) })

    pub passed_found : (count : ℕ) → base + count ≤ range_end b i → (q : ℕ) → Within q base count → ManagedIn b q
    passed_found count l q v = behind_end q v.from (omega (arith, v.below))

  pub passed_says : ranges_in b ≤ i → (count : ℕ) → Says (leb (base + count) p) ((q : ℕ) → Within q base count → ManagedIn b q)
  passed_says h count =
      record {
        holds = λ e q w. let l : base + count ≤ p = leb-true _ _ e in g.behind q w.from (omega (arith, w.below));
        fails = λ e m.
            let l : p < base + count = leb-false _ _ e in
            let x : ManagedIn b p = m p (record { from = g.from; below = l }) in
            g.clear x.0 (omega (arith, x.1)) x.2;
      }

-- a range starts past p, so those that follow it do
pub passed_stop : (b : List ℕ) (base p i : ℕ) → Passed b base p i → RangesSound b → i < ranges_in b → p < range_base b i → Passed b base p (ranges_in b)
passed_stop b base p i g s h l =
    record { from = g.from; behind = g.behind; clear = λ j m v. by_cases (dec_lt j i) (λ n. g.clear j n v) (λ n. later j m v (omega arith)) }
  where
    later : (j : ℕ) → j < ranges_in b → Within p (range_base b j) (range_count b j) → i ≤ j → ⊥
    later j m v k = ⊎_elim (λ e. omega (arith, ap (range_base b) e, v.from)) (λ n. omega (arith, ends_before b s i j n m, v.from)) (eq-or-lt_of_le k)
