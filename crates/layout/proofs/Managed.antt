-- A table's ranges stand in order, and no two have a port in common; and a table with a range more, a range less, or a level changed is the image
-- of the facts with that change. Assumes nothing.
use Rattle.facts.proofs.Words.{◌≡◌, length, refl, ap, sym, ◌∙◌, ◌⊎◌, inl, inr, ⊎_elim, by_cases, ◌≢◌, List, some, some-injective}
use Rattle.facts.proofs.Words.{none-ne-some, ℕ, zero, suc, ◌+◌, ◌-◌, ◌≤◌, ◌<◌, dec_lt, arith, get_elem?, set}
use Rattle.layout.proofs.Of
use Rattle.facts.specs.{Level, Range, Within, with_level, byte, with_ranges, inserted, without_range, range_removed, all_levels, most_clients, most_ranges}
use Rattle.layout.specs.{image, mark, range_bytes, level_bytes, ranges_in, range_place, level_place, range_in, Accepted, RangesSound, range_base}
use Rattle.layout.specs.{range_count, end_before_lem, TakenOut, PutIn, level_reserved_at, range_size, ranges_at, handles_at, head_ranges, cards_at}
use Rattle.layout.specs.{table_size}
use Rattle.layout.proofs.Parts.{zeros}
use Rattle.layout.proofs.Lists.{without_at, inserted_at, at_past, climb}
use Rattle.layout.proofs.Records.{records_fewer, records_more}
use Rattle.layout.proofs.Image.{parts, part, Stands}
use Rattle.layout.proofs.Shows.{shows_image, head_bytes, head_set, shown_changed, ranges_are, put_image}
use Rattle.layout.proofs.Entered.{wrote_none, wrote_byte}

-- where the ith range ends
abbrev pub range_end : List ℕ → ℕ → ℕ
range_end b i = range_base b i + range_count b i

-- where the one before it ends
pub end_before : (b : List ℕ) (i : ℕ) → i ≢ 0 → range_end b (i - 1) ≡ end_before_lem b i
end_before b zero n = absurd (n refl)
end_before b (suc k) n = ap (range_end b) (omega arith)

pub end_next : (b : List ℕ) (i : ℕ) → end_before_lem b (i + 1) ≡ range_end b i
end_next b i = let e : i + 1 ≡ suc i = omega arith in ap (end_before_lem b) e

-- each range ends at or before the start of every later one
pub ends_before : (b : List ℕ) → RangesSound b → (j i : ℕ) → j < i → i < ranges_in b → range_end b j ≤ range_base b i
ends_before b s j i l h = climb (range_base b) (range_end b) i j (λ k. omega arith) (λ k m. (s (suc k) (omega arith)).from) l

-- so the later of two has the greater base
pub bases_rise : (b : List ℕ) → RangesSound b → (j i : ℕ) → j < i → i < ranges_in b → range_base b j < range_base b i
bases_rise b s j i l h = omega (arith, ends_before b s j i l h, (s j (omega arith)).port)

-- the ith range has the port p
abbrev pub HasPort : List ℕ → ℕ → ℕ → Type 0
HasPort b i p = Within p (range_base b i) (range_count b i)

-- a port lies in one range
pub same_range : (b : List ℕ) → RangesSound b → (p i j : ℕ) → i < ranges_in b → j < ranges_in b → HasPort b i p → HasPort b j p → i ≡ j
same_range b s p i j l m v w =
    let not_before : i < j → ⊥ = (λ k. omega (arith, ends_before b s i j k m, v.below, w.from)) in
    let not_after : j < i → ⊥ = (λ k. omega (arith, ends_before b s j i k l, w.below, v.from)) in
    omega arith

-- a range that is listed has one of the table's places
pub range_placed : (b : List ℕ) → Accepted b → (i : ℕ) → i < ranges_in b → i < most_ranges
range_placed b a i l = omega (arith, (Of.sound_in b a).ranges_most)

module _ (b b' : List ℕ) (a : Accepted b) where
  abbrev ranges : List Range
  ranges = a.facts.ranges

  -- what stands at a place of the list is what its record says
  said : (i : ℕ) (y : Range) → get_elem? ranges i ≡ some y → i < ranges_in b → y.base ≡ range_base b i
  said i y e l =
      ap (λ (r : Range). r.base) (sym (some-injective (range_in b i) y (sym (Of.range_of b a i l) ∙ e))) ∙ Of.range_base_lem b a i

  -- the ranges rs stand in their records, and their number in the head
  ranges_image : (i : ℕ) (rs : List Range) → length b' ≡ length b → byte b' head_ranges ≡ length rs
      → ((p : ℕ) → p ≢ head_ranges → (p < range_place i) ⊎ (handles_at ≤ p) → byte b' p ≡ byte b p)
      → Stands b' ranges_at (part most_ranges range_size (λ k. range_bytes (get_elem? rs k)))
      → image (with_ranges a.facts rs) ≡ b'
  ranges_image i rs same number other new =
      let w = Of.shows_in b a in
      shows_image (with_ranges a.facts rs) b' (omega arith)
      (record {
        size = same ∙ w.size;
        heads = head_set b b' (head_bytes a.facts) head_ranges (length rs) w.heads refl (omega arith) number
            (λ j l d. other j d (inl (omega arith)));
        shown = shown_changed table_size b b' 2 (λ k. range_bytes (get_elem? rs k)) cards_at (parts most_clients a.facts) w.shown
            (λ q l o. other q (λ e. omega (arith, e)) (⊎_elim (λ m. inl (omega arith)) inr o)) new;
      })

  -- the range in the place i taken out
  pub range_taken_out : (i : ℕ) → i < ranges_in b → TakenOut b b' head_ranges (range_place i) range_size handles_at
      → image (range_removed a.facts (range_base b i)) ≡ b'
  range_taken_out i l d =
      let base = range_base b i in
      let more = without_at (λ (r : Range). r.base) base ranges i (range_in b i) (Of.range_of b a i l) (Of.range_base_lem b a i)
      (λ k y m e q. omega (arith, said k y e (omega arith), q, bases_rise b (Of.sound_in b a).ranges k i m l)) in
      let fewer = without_range base ranges in
      ranges_image i fewer d.size (omega (arith, d.fewer, Of.ranges_in_lem b a, more.longer)) d.other
      (records_fewer range_bytes ranges_at range_size most_ranges (zeros range_size) ranges fewer b b' i (range_in b i) (ranges_are (Of.shows_in b a))
      (λ p m n. d.other p (λ q. omega (arith, q)) (inl n)) more most_ranges a.formed.ranges_most (omega arith) d.moved d.last
      (λ p m. d.other p (λ q. omega (arith, q)) (inr m)))

  -- the range r put in at the place i, after those whose base is not over its own
  pub range_put_in : (r : Range) (i : ℕ) → i ≤ ranges_in b → ((j : ℕ) → j < i → range_base b j ≤ r.base)
      → ((j : ℕ) → i ≤ j → j < ranges_in b → r.base < range_base b j)
      → PutIn b b' head_ranges (range_place i) handles_at (range_bytes (some r))
      → image (with_ranges a.facts (inserted r a.facts.ranges)) ≡ b'
  range_put_in r i l low high d =
      let over : (j : ℕ) (y : Range) → i ≤ j → get_elem? ranges j ≡ some y → r.base < y.base = (λ j y m e. by_cases (dec_lt j (ranges_in b))
      (λ n. omega (arith, said j y e n, high j m n))
      (λ n. absurd (none-ne-some y (sym (at_past ranges j (omega (arith, Of.ranges_in_lem b a))) ∙ e)))) in
      let more = inserted_at r ranges i (omega (arith, Of.ranges_in_lem b a)) (λ j y m e. omega (arith, said j y e (omega arith), low j m)) over in
      let all = inserted r ranges in
      ranges_image i all d.size (omega (arith, d.more, Of.ranges_in_lem b a, more.longer)) d.other
      (records_more range_bytes ranges_at range_size most_ranges (zeros range_size) ranges all b b' i r (ranges_are (Of.shows_in b a))
      (λ p m n. d.other p (λ q. omega (arith, q)) (inl n)) more d.new d.moved)

  -- a level's marks
  pub level_written : (l : ℕ) (v : Level) → l < all_levels
      → b' ≡ set (set b (level_place l) (mark v.managed)) (level_place l + level_reserved_at) (mark v.reserved)
      → image (with_level a.facts l v) ≡ b'
  level_written l v h e =
      let w = Of.shows_in b a in
      let first = wrote_byte (wrote_none b (level_place l)) (level_place l) (mark v.managed) (omega arith) (omega (arith, w.size)) in
      let wrote = wrote_byte first (level_place l + level_reserved_at) (mark v.reserved) refl (omega (arith, w.size)) in
      put_image level_bytes a.facts.level l v 1 (parts most_clients a.facts) refl refl h wrote w.shown (with_level a.facts l v) w.size
      w.heads (λ t. t)
      ∙ sym e
