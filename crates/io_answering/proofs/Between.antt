-- Every port is managed or lies in a gap, and not both; so all places where a card answers are managed exactly if its ports meet no gap. Assumes
-- nothing.
use Rattle.facts.proofs.Words.{◌≡◌, sym, subst, ◌⊎◌, inl, inr, List, Bool, ℕ, zero, suc, ◌+◌, ◌-◌, ◌≤◌, ◌<◌, eq-or-lt_of_le, dec_lt, arith}
use Rattle.facts.specs.declared.Ports.{Ports}
use Rattle.facts.proofs.Words.{Says}
use Rattle.facts.specs.{Within, Answers, all_ports, most_lines}
use Rattle.facts.proofs.{says_as, own_answers}
use Rattle.layout.specs.{ranges_in, ManagedIn, RangesSound, range_base, end_before_lem}
use Rattle.layout.proofs.{below_in, below_past, range_end, ends_before}
use Rattle.io_ranges.proofs.{answers_meet, meet_answers, answers_own}
use Rattle.io_answering.specs.{start_at, gap_in, MeetsGap, AllManagedIn}

module _ (b : List ℕ) where
  -- a gap ends at the base of the range there, or past the last port
  pub start_listed : (i : ℕ) → i < ranges_in b → start_at b i ≡ range_base b i
  start_listed i l = below_in (ranges_in b) all_ports (range_base b) i l

  pub start_last : (i : ℕ) → ranges_in b ≤ i → start_at b i ≡ all_ports
  start_last i l = below_past (ranges_in b) all_ports (range_base b) i l

  abbrev InGap : ℕ → ℕ → Type 0
  InGap p i = Within p (gap_in b i).base (gap_in b i).count

  abbrev Told : ℕ → Type 0
  Told p = ManagedIn b p ⊎ ((i : ℕ) × (i ≤ ranges_in b) × InGap p i)

  -- a port below the end of some ranges is managed, or lies in a gap; and so does every other
  told_before : (p n : ℕ) → n ≤ ranges_in b → p < end_before_lem b n → Told p
  told_before p zero l h = absurd (omega arith)
  told_before p (suc k) l h = below_or_above (dec_lt p (end_before_lem b k)) (dec_lt p (range_base b k)) (told_before p k (omega arith))
    where
      below_or_above : Dec (p < end_before_lem b k) → Dec (p < range_base b k) → (p < end_before_lem b k → Told p) → Told p
      below_or_above (yes m) d f = f m
      below_or_above (no m) (yes n) f =
          inr (k, omega arith, record { from = omega arith; below = omega (arith, start_listed k (omega arith)) })
      below_or_above (no m) (no n) f = inl (k, omega arith, record { from = omega arith; below = h })

  managed_or_gap : (p : ℕ) → p < all_ports → Told p
  managed_or_gap p l = below_or_not (dec_lt p (end_before_lem b (ranges_in b)))
    where
      below_or_not : Dec (p < end_before_lem b (ranges_in b)) → Told p
      below_or_not (yes m) = told_before p (ranges_in b) (omega arith) m
      below_or_not (no m) =
          inr (ranges_in b, omega arith, record { from = omega arith; below = omega (arith, start_last (ranges_in b) (omega arith)) })

  module _ (s : RangesSound b) where
    -- no range ends past the start of the next, or past the last port
    pub ends_within : (i : ℕ) → i ≤ ranges_in b → end_before_lem b i ≤ all_ports
    ends_within zero l = omega arith
    ends_within (suc k) l = (s k (omega arith)).within

    pub gap_ends : (i : ℕ) → i ≤ ranges_in b → (end_before_lem b i ≤ start_at b i) × (start_at b i ≤ all_ports)
    gap_ends i l = below_or_not (dec_lt i (ranges_in b))
      where
        below_or_not : Dec (i < ranges_in b) → (end_before_lem b i ≤ start_at b i) × (start_at b i ≤ all_ports)
        below_or_not (yes m) = (omega (arith, start_listed i m, (s i m).from), omega (arith, start_listed i m, (s i m).within))
        below_or_not (no m) = (omega (arith, start_last i (omega arith), ends_within i l), omega (arith, start_last i (omega arith)))

    -- the ranges before a gap end where it begins, and the others start at or past its end
    ended : (k : ℕ) → k ≤ ranges_in b → (j : ℕ) → j < k → range_end b j ≤ end_before_lem b k
    ended zero h j n = absurd (omega arith)
    ended (suc k) h j n = near (eq-or-lt_of_le (omega arith))
      where
        near : (j ≡ k) ⊎ (j < k) → range_end b j ≤ range_end b k
        near (inl e) = subst (λ (x : ℕ). range_end b j ≤ range_end b x) e (omega arith)
        near (inr q) = omega (arith, ends_before b s j k q (omega arith))

    begins : (i j : ℕ) → i ≤ j → j < ranges_in b → start_at b i ≤ range_base b j
    begins i j h n = near (eq-or-lt_of_le h)
      where
        near : (i ≡ j) ⊎ (i < j) → start_at b i ≤ range_base b j
        near (inl e) = subst (λ (x : ℕ). start_at b x ≤ range_base b j) (sym e) (omega (arith, start_listed j n))
        near (inr q) = omega (arith, start_listed i (omega arith), ends_before b s i j q n)

    -- so no port of a gap is managed
    gap_unmanaged : (p i : ℕ) → i ≤ ranges_in b → InGap p i → ManagedIn b p → ⊥
    gap_unmanaged p i l g m = below_or_not (dec_lt m.0 i)
      where
        below_or_not : Dec (m.0 < i) → ⊥
        below_or_not (yes n) = omega (arith, ended i l m.0 n, m.2.below, g.from)
        below_or_not (no n) = omega (arith, begins i m.0 (omega arith) m.1, m.2.from, g.below, (gap_ends i l).0)

    module _ (a : Ports) (lines : a.lines ≤ most_lines) where
      -- wherever the card answers is managed exactly if its ports meet no gap
      pub clear_answers : (MeetsGap b a → ⊥) → (p : ℕ) → Answers a p → ManagedIn b p
      clear_answers n p x = in_each_case (managed_or_gap p x.below)
        where
          in_each_case : Told p → ManagedIn b p
          in_each_case (inl m) = m
          in_each_case (inr g) = absurd (n (g.0, g.1, answers_meet a lines (gap_in b g.0).base (gap_in b g.0).count p x g.2))

      pub answers_clear : ((p : ℕ) → Answers a p → ManagedIn b p) → MeetsGap b a → ⊥
      answers_clear all m =
          let e = gap_ends m.0 m.1 in
          let x = meet_answers a lines (gap_in b m.0).base (gap_in b m.0).count (omega (arith, e.0, e.1)) m.2 in
          gap_unmanaged x.0 m.0 m.1 x.1 (all x.0 x.2)

      pub clear_says : {r : Bool} → a.base + a.count ≤ all_ports → Says r (MeetsGap b a → ⊥) → Says r (AllManagedIn b a)
      clear_says h x =
          says_as x
          (λ n. record {
            own = λ p w. clear_answers n p (own_answers a p (omega (arith, w.below)) w);
            answers = clear_answers n;
          })
          (λ m. answers_clear m.answers)

    -- no managed port is past FFFF
    managed_below : (p : ℕ) → ManagedIn b p → p < all_ports
    managed_below p m = omega (arith, m.2.below, (s m.0 m.1).within)

    -- a card that decodes all lines answers at its own ports alone
    pub own_says : (a : Ports) → a.lines ≡ most_lines → {r : Bool} → Says r ((p : ℕ) → Within p a.base a.count → ManagedIn b p)
        → Says r (AllManagedIn b a)
    own_says a lines x =
        says_as x
        (λ m. record {
          own = m;
          answers = λ p y.
              let own = m y.own y.own_in in
              subst (ManagedIn b) (sym (answers_own a lines p y (managed_below y.own own))) own;
        })
        (λ m. m.own)

    -- ports past FFFF aren't managed
    pub past_unmanaged : (a : Ports) → all_ports < a.base + a.count → 1 ≤ a.count → AllManagedIn b a → ⊥
    past_unmanaged a l one m =
        omega (arith, managed_below (a.base + a.count - 1) (m.own (a.base + a.count - 1) (record { from = omega arith; below = omega arith })))
