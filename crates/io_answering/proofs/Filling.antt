-- The rows of the gaps, filled in one after the other, are those of the table. Assumes nothing.
use Rattle.facts.proofs.Words.{◌≡◌, refl, ap, sym, subst, subst⁻¹, ◌∙◌, ◌≢◌, List, ℕ, zero, suc, ◌+◌, ◌-◌, ◌%◌, ◌^◌, ◌≤◌, ◌<◌, min, max, mod-lt}
use Rattle.facts.proofs.Words.{by_cases, dec_lt, ℕ_discrete, arith, pow_pos, pow_mono, Says, Bool}
use Rattle.facts.specs.declared.Ports.{Ports}
use Rattle.facts.specs.{Meet, Within, all_ports, most_lines, most_ranges}
use Rattle.layout.specs.{below, ranges_in, RangesSound, range_base, end_before_lem}
use Rattle.layout.proofs.{below_in, below_past, range_end, end_next}
use Rattle.facts.proofs.{says_as}
use Rattle.io_ranges.proofs.{all_ports_mod, meet_near, near_meet}
use Rattle.io_answering.specs.declared.gaps.Gaps.{Gaps}
use Rattle.io_answering.specs.{start_at, gap_in, MeetsGap, most_gaps, most_counted, gap_at, counted, MeetsRows, RowsAre, GapsAre}
use Rattle.io_answering.proofs.Between.{start_listed, start_last, ends_within, gap_ends}

-- the row of a gap: its base, where it has ports, and its count, up to the most that is counted
pub record RowIs (g row : Ports) : Type 0 where
  pub base : 1 ≤ g.count → row.base ≡ g.base
  pub count : row.count ≡ min g.count most_counted
  pub lines : row.lines ≡ g.lines

-- a card that doesn't decode all lines answers in the gap exactly if it does in the row
module _ (g row a : Ports) (is : RowIs g row) (all : g.lines ≡ most_lines) (low : g.base ≤ all_ports) (fewer : a.lines < most_lines)
  where
    pub met_row : Meet a g → Meet a row
    met_row m = near_meet a row a.lines (omega (arith, is.lines, all)) (omega arith) own row_port (omega (arith, base)) (narrowed near period)
      where
        own : 1 ≤ a.count
        own = omega (arith, m.one_in.from, m.one_in.below)

        port : 1 ≤ g.count
        port = omega (arith, m.other_in.from, m.other_in.below)

        row_port : 1 ≤ row.count
        row_port = omega (arith, is.count, port)

        base : row.base ≡ g.base
        base = is.base port

        period : (a.base + a.count - 1 + all_ports - row.base) % 2 ^ a.lines < most_counted
        period =
            let l : a.lines ≤ 15 = omega arith in
            omega (arith, mod-lt (a.base + a.count - 1 + all_ports - row.base) (pow_pos a.lines), pow_mono l)

        near : (a.base + a.count - 1 + all_ports - row.base) % 2 ^ a.lines < a.count + g.count - 1
        near =
            subst (λ (n : ℕ). (a.base + a.count - 1 + all_ports - n) % 2 ^ a.lines < a.count + g.count - 1) (sym base)
            (meet_near a g a.lines (omega (arith, all)) (omega arith) own port low m)

        narrowed : {n : ℕ} → n < a.count + g.count - 1 → n < most_counted → n < a.count + row.count - 1
        narrowed l k = omega (arith, is.count, own)

    pub row_met : Meet a row → Meet a g
    row_met m =
        record {
          one = m.one;
          other = m.other;
          one_in = m.one_in;
          other_in = record { from = omega (arith, base, m.other_in.from); below = omega (arith, base, is.count, m.other_in.below) };
          equal = subst (λ (k : ℕ). m.one % 2 ^ min a.lines k ≡ m.other % 2 ^ min a.lines k) is.lines m.equal;
        }
      where
        base : row.base ≡ g.base
        base = is.base (omega (arith, is.count, m.other_in.from, m.other_in.below))

-- the gaps of so many places are filled in, and the others have no port
pub record Filled (gap : ℕ → Ports) (gaps : Gaps) (n : ℕ) : Type 0 where
  pub filled : (i : ℕ) → i < n → RowIs (gap i) (gap_at gaps i)
  pub rest : (i : ℕ) → n ≤ i → (gap_at gaps i).count ≡ 0

-- one gap more is entered in the place k: the others stay, where they are those that were filled in
pub filled_at : {gap gap' : ℕ → Ports} {gaps gaps' : Gaps} {n n' : ℕ} → Filled gap gaps n → (k : ℕ) → k < n' → n ≤ n'
    → ((i : ℕ) → i < n' → i ≢ k → (i < n) × (gap i ≡ gap' i))
    → ((i : ℕ) → i ≢ k → gap_at gaps' i ≡ gap_at gaps i)
    → RowIs (gap' k) (gap_at gaps' k)
    → Filled gap' gaps' n'
filled_at {gap} {gap'} {gaps} {gaps'} f k here longer others stay is =
    record {
      filled = λ i m. by_cases (ℕ_discrete i k) (λ e. subst⁻¹ (λ (j : ℕ). RowIs (gap' j) (gap_at gaps' j)) e is)
          (λ d. let old = others i m d in rw (sym (stay i d), old.1) at (f.filled i old.0));
      rest = λ i m. ap (λ (g : Ports). g.count) (stay i (λ e. omega (arith, e))) ∙ f.rest i (omega arith);
    }

-- a walk over the ranges has come to the place i, and the ranges passed end at `end`
pub record Filling (b : List ℕ) (gaps : Gaps) (end i : ℕ) : Type 0 where
  pub listed : i ≤ ranges_in b
  pub ends : end ≡ end_before_lem b i
  pub filled : Filled (gap_in b) gaps i

pub filling_start : (b : List ℕ) (gaps : Gaps) → ((i : ℕ) → (gap_at gaps i).count ≡ 0) → Filling b gaps 0 0
filling_start b gaps none = record { listed = omega arith; ends = refl; filled = record { filled = λ i l. absurd (omega arith); rest = λ i l. none i } }

module _ (b : List ℕ) (gaps gaps' : Gaps) (s : RangesSound b) (most : ranges_in b ≤ most_ranges) where
  -- the gap before the range in the place i
  pub filling_more : {end start next i : ℕ} → Filling b gaps end i → i < ranges_in b → start ≡ range_base b i → next ≡ range_end b i
      → gap_at gaps' i ≡ counted end (start - end)
      → ((j : ℕ) → j ≢ i → gap_at gaps' j ≡ gap_at gaps j)
      → Filling b gaps' next (i + 1)
  filling_more {end} {start} {next} {i} f l starts ends here stay =
      record {
        listed = omega arith;
        ends = ends ∙ sym (end_next b i);
        filled = filled_at f.filled i (omega arith) (omega arith) (λ j m d. (omega (arith, d), refl)) stay
            (subst⁻¹ (RowIs (gap_in b i)) here
            (record {
              base = λ some. omega (arith, f.ends, is, some, (gap_ends b s i f.listed).1);
              count = omega (arith, is, f.ends);
              lines = refl;
            }));
      }
    where
      is : start ≡ start_at b i
      is = starts ∙ sym (start_listed b i l)

  -- the gap past the last range goes on before the first one, at so many ports
  module _ (end : ℕ) (f : Filling b gaps end (ranges_in b)) (here : gap_at gaps' 0 ≡ counted end (all_ports - end + (gap_at gaps 0).count))
      (stay : (j : ℕ) → j ≢ 0 → gap_at gaps' j ≡ gap_at gaps j) where
    abbrev n : ℕ
    n = ranges_in b

    abbrev before : ℕ
    before = below n 0 (λ _. start_at b 0) 0

    abbrev around : ℕ → Ports
    around zero = record { base = end % all_ports; count = all_ports - end + before; lines = most_lines }
    around (suc i) = gap_in b (suc i)

    ends_in : end ≤ all_ports
    ends_in = omega (arith, f.ends, ends_within b s n (omega arith))

    some_before : 0 < n → before ≡ start_at b 0
    some_before l = below_in n 0 (λ _. start_at b 0) 0 l

    none_before : n ≡ 0 → before ≡ 0
    none_before e = below_past n 0 (λ _. start_at b 0) 0 (omega (arith, e))

    first : (gap_at gaps 0).count ≡ min before most_counted
    first =
        by_cases (dec_lt 0 n) (λ l. omega (arith, (f.filled.filled 0 l).count, some_before l))
        (λ l. omega (arith, f.filled.rest 0 (omega arith), none_before (omega arith)))

    all_filled : Filled around gaps' (max n 1)
    all_filled =
        filled_at f.filled 0 (omega arith) (omega arith) others stay
        (subst⁻¹ (RowIs (around 0)) here (record { base = λ some. refl; count = omega (arith, first); lines = refl }))
      where
        others : (i : ℕ) → i < max n 1 → i ≢ 0 → (i < n) × (gap_in b i ≡ around i)
        others zero m d = absurd (d refl)
        others (suc i) m d = (omega arith, refl)

    -- a card that doesn't decode all lines answers there exactly if it does past the last range or before the first one
    module _ (a : Ports) (fewer : a.lines < most_lines) where
      abbrev lines : ℕ
      lines = min a.lines most_lines

      repeats : (p : ℕ) → (p + all_ports) % 2 ^ lines ≡ p % 2 ^ lines
      repeats = all_ports_mod lines (omega arith)

      moved : (g g' : Ports) (m : Meet a g) (p : ℕ) → g.lines ≡ most_lines → g'.lines ≡ most_lines → p % 2 ^ lines ≡ m.other % 2 ^ lines
          → Within p g'.base g'.count → Meet a g'
      moved g g' m p e e' same w =
          record {
            one = m.one;
            other = p;
            one_in = m.one_in;
            other_in = w;
            equal = subst⁻¹ (λ (k : ℕ). m.one % 2 ^ min a.lines k ≡ p % 2 ^ min a.lines k) e'
                (subst (λ (k : ℕ). m.one % 2 ^ min a.lines k ≡ m.other % 2 ^ min a.lines k) e m.equal ∙ sym same);
          }

      past_last : Meet a (gap_in b n) → Meet a (around 0)
      past_last m =
          moved (gap_in b n) (around 0) m m.other refl refl refl
          (record {
            from = omega (arith, f.ends, m.other_in.from, m.other_in.below, start_last b n (omega arith));
            below = omega (arith, f.ends, m.other_in.from, m.other_in.below, start_last b n (omega arith));
          })

      before_first : 0 < n → Meet a (gap_in b 0) → Meet a (around 0)
      before_first l m =
          by_cases (dec_lt end all_ports)
          (λ h. moved (gap_in b 0) (around 0) m (m.other + all_ports) refl refl (repeats m.other)
          (record { from = omega arith; below = omega (arith, some_before l, m.other_in.below) }))
          (λ h. moved (gap_in b 0) (around 0) m m.other refl refl refl
          (record { from = omega (arith, ends_in); below = omega (arith, some_before l, m.other_in.below) }))

      round_met : Meet a (around 0) → MeetsGap b a
      round_met m = either_way (dec_lt end all_ports) (dec_lt m.other all_ports)
        where
          first_met : (p : ℕ) → p % 2 ^ lines ≡ m.other % 2 ^ lines → p < before → MeetsGap b a
          first_met p same l =
              let some : 0 < n = by_cases (dec_lt 0 n) (λ h. h) (λ h. absurd (omega (arith, l, none_before (omega arith)))) in
              (0, omega arith, moved (around 0) (gap_in b 0) m p refl refl same (record { from = omega arith; below = omega (arith, l, some_before some) }))

          either_way : Dec (end < all_ports) → Dec (m.other < all_ports) → MeetsGap b a
          either_way (yes l) (yes h) = (
            n,
            omega arith,
            moved (around 0) (gap_in b n) m m.other refl refl refl
                (record { from = omega (arith, f.ends, m.other_in.from); below = omega (arith, f.ends, start_last b n (omega arith)) }),
          )
          either_way (yes l) (no h) =
              let p = m.other - all_ports in
              let up : p + all_ports ≡ m.other = omega arith in
              first_met p (sym (repeats p) ∙ ap (λ (q : ℕ). q % 2 ^ lines) up) (omega (arith, m.other_in.below))
          either_way (no l) h = first_met m.other refl (omega (arith, ends_in, m.other_in.below))

    has : (a : Ports) → a.lines < most_lines → MeetsGap b a → MeetsRows gaps' a
    has a l (i, h, m) = in_turn i (ℕ_discrete i n) h m
      where
        row : (i : ℕ) → i < max n 1 → (around i).lines ≡ most_lines → (around i).base ≤ all_ports → Meet a (around i) → MeetsRows gaps' a
        row i k all low m = (i, omega arith, met_row (around i) (gap_at gaps' i) a (all_filled.filled i k) all low l m)

        first_row : Meet a (around 0) → MeetsRows gaps' a
        first_row = row 0 (omega arith) refl (omega arith)

        in_turn : (i : ℕ) → Dec (i ≡ n) → i ≤ n → Meet a (gap_in b i) → MeetsRows gaps' a
        in_turn i (yes e) h m = first_row (past_last a l (subst (λ (k : ℕ). Meet a (gap_in b k)) e m))
        in_turn zero (no d) h m = first_row (before_first a l (omega (arith, d)) m)
        in_turn (suc i) (no d) h m = row (suc i) (omega (arith, d)) refl (ends_within b s (suc i) h) m

    only : (a : Ports) → a.lines < most_lines → MeetsRows gaps' a → MeetsGap b a
    only a l (i, h, m) = in_turn i h m (dec_lt i (max n 1))
      where
        met : (i : ℕ) → i < max n 1 → (around i).lines ≡ most_lines → (around i).base ≤ all_ports → Meet a (gap_at gaps' i) → Meet a (around i)
        met i k all low m = row_met (around i) (gap_at gaps' i) a (all_filled.filled i k) all low l m

        in_turn : (i : ℕ) → i < most_gaps → Meet a (gap_at gaps' i) → Dec (i < max n 1) → MeetsGap b a
        in_turn i h m (no k) = absurd (omega (arith, all_filled.rest i (omega arith), m.other_in.from, m.other_in.below))
        in_turn zero h m (yes k) = round_met a l (met 0 k refl (omega arith) m)
        in_turn (suc i) h m (yes k) = (suc i, omega arith, met (suc i) k refl (ends_within b s (suc i) (omega arith)) m)

    pub rows_are : RowsAre b gaps'
    rows_are = record { has = has; only = only }

-- a card answers in none of the gaps exactly if it does in none of the table
pub gaps_say : (b : List ℕ) (gaps : Gaps) (a : Ports) → a.lines < most_lines → GapsAre b a.lines gaps → {r : Bool} → Says r (MeetsRows gaps a → ⊥)
    → Says r (MeetsGap b a → ⊥)
gaps_say b gaps a l are s = says_as s (λ n m. n ((are l).has a l m)) (λ n m. n ((are l).only a l m))
