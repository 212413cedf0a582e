-- Each way in which an Add or a Remove of a range ends is the rule's; what its writes leave. Assumes nothing.
use Rattle.facts.proofs.Words.{◌≡◌, refl, ap, sym, ◌∙◌, subst, subst₂, ◌⊎◌, inl, inr, ⊎_elim, ◌≢◌, List, [], ◌∷◌, ◌++◌, Bool, ℕ, ◌+◌, ◌≤◌, ◌<◌}
use Rattle.facts.proofs.Words.{add-zero, dec_lt, arith, length, get_or, set, length-set}
use Rattle.facts.specs.declared.Ports.{Ports}
use Rattle.layout.proofs.Of
use Rattle.std.specs.Prelude.{Result, Ok, Err}
use Rattle.facts.specs.{Code, BadAttribute, BadBase, InUse, OutOfResource, Facts, Range, byte, with_word, with_long, Within, Has, Managed}
use Rattle.facts.specs.{Check, ◌gives◌, FirstGiven, range_checks, range_removed, with_ranges, inserted, JustThat, RangeAnswered, put_checks, take_checks}
use Rattle.facts.specs.{all_ports, most_lines, most_ranges, MeetsHeld}
use Rattle.facts.proofs.{told, meet_symmetric}
use Rattle.layout.specs.{image, mark, two, four, ranges_in, range_place, range_in, Accepted, range_base, TakenOut, PutIn, range_count_at}
use Rattle.layout.specs.{range_reserved_at, range_size, handles_at, head_ranges, table_size, facts_in, ManagedIn}
use Rattle.layout.proofs.{below_at, byte_same, byte_other, word_length, word_low, word_high, word_other, long_length, long_bytes, long_other}
use Rattle.layout.proofs.{range_put_in, range_taken_out, becomes}
use Rattle.table_write.specs.{RoomMade}
use Rattle.io_ranges.proofs.{answers_meet, meet_answers}
use Rattle.managed_changes.specs.{Changes}
use Rattle.managed_changes.proofs.{served_as}
use Rattle.managed_ranges.specs.{NamesPorts, PortsNamedIs, FreeAt, FoundAt, Entered, TakesRange}

-- the checks that Add and Remove share, around those of their own; Bits says that the bits are right
abbrev shared : Type 0 → ℕ → ℕ → ℕ → List Check → List Check
shared Bits base n lines own = (((Bits → ⊥) ⊎ (lines ≢ most_lines)) gives BadAttribute) ∷ range_checks base n own

-- ports that are named wrongly give the first code
pub ports_wrong : {Bits : Type 0} {n lines : ℕ} {k : Code} (base : ℕ) (own : List Check) → Bits → PortsNamedIs base n lines (Err k)
    → FirstGiven (shared Bits base n lines own) k
ports_wrong base own bits (inl x) = inl (inr x.0, x.1)
ports_wrong base own bits (inr (l, inl x)) = inr (⊎_elim (λ n. n bits) l, inl x)
ports_wrong base own bits (inr (l, inr (m, inl x))) = inr (⊎_elim (λ n. n bits) l, inr (m, inl x))
ports_wrong base own bits (inr (l, inr (m, inr x))) = absurd x.1

-- ports that are named rightly leave it to the checks of their own
module _ {Bits : Type 0} {base n lines x y : ℕ} (own : ℕ → ℕ → Facts → List Check) (after : ℕ → ℕ → Facts → Facts) (b b' : List ℕ) (bits : Bits)
    (ports : NamesPorts base n lines x y) where
  good : (Bits → ⊥) ⊎ (lines ≢ most_lines) → ⊥
  good = ⊎_elim (λ n. n bits) (λ d. d ports.lines_are)

  counted : (n ≡ 0) ⊎ (all_ports < n) → ⊥
  counted = ⊎_elim (λ e. omega (arith, e, ports.least)) (λ l. omega (arith, ports.most))

  pub own_change : {T : Type 0} (c : Result T Code) → Changes (own x y) (after x y) b b' c
      → Changes (λ (F : Facts). shared Bits base n lines (own base n F)) (after base n) b b' c
  own_change c s = in_each_case c (subst₂ (λ (x y : ℕ). Changes (own x y) (after x y) b b' c) ports.base_is ports.count_is s)
    where
      in_each_case : {T : Type 0} (c : Result T Code) → Changes (own base n) (after base n) b b' c
          → Changes (λ (F : Facts). shared Bits base n lines (own base n F)) (after base n) b b' c
      in_each_case (Ok x) = served_as (λ F G r. ((good, (counted, ((λ l. omega (arith, ports.within)), r.0))), r.1))
      in_each_case (Err k) = served_as (λ F G r. (inr (good, inr (counted, inr ((λ l. omega (arith, ports.within)), r.0))), r.1))

-- the ports of a range, all of whose lines count
abbrev whole : ℕ → ℕ → Ports
whole base n = record { base = base; count = n; lines = most_lines }

module _ {b : List ℕ} (a : Accepted b) {base n : ℕ} where
  -- ports put in
  pub put_taken : (p : ℕ) × Within p base n × ManagedIn b p → FirstGiven (put_checks base n a.facts) InUse
  put_taken x = inl ((x.0, x.1, Of.managed_said b a x.0 x.2), refl)

  module _ {i : ℕ} (f : FreeAt b base n i) where
    -- none of the ports is managed
    unmanaged : (p : ℕ) × Within p base n × Managed a.facts p → ⊥
    unmanaged x = f.free x.0 x.1 (Of.said_managed b a x.0 x.2)

    pub put_full : most_ranges ≤ ranges_in b → FirstGiven (put_checks base n a.facts) OutOfResource
    put_full h = inr (unmanaged, inl (omega (arith, Of.ranges_in_lem b a), refl))

    pub put_made : {b' : List ℕ} {m : ℕ} {t : Bool} → 1 ≤ n → ranges_in b < most_ranges → m ≡ mark t → Entered b b' i base n m
        → let new : Range = record { base = base; count = n; reserved = t } in
        Changes (put_checks base n) (λ (F : Facts). with_ranges F (inserted new F.ranges)) b b' (Ok (tt {0}))
    put_made {b'} port room e entered =
        becomes _ _ _ a _ ((unmanaged, ((λ h. omega (arith, Of.ranges_in_lem b a)), tt)), refl)
        (range_put_in b b' a _ i f.place.within (λ j l. omega (arith, f.place.ahead j l)) over (rw e at entered))
      where
        -- a range that starts at the base would have one of the ports
        over : (j : ℕ) → i ≤ j → j < ranges_in b → base < range_base b j
        over j l h =
            let from = f.place.behind j l h in
            told (dec_lt base (range_base b j)) (λ n. f.free base (omega arith) (j, h, omega (arith, ((Of.sound_in b a).ranges j h).port)))

  -- ports taken out
  pub take_nowhere : ((i : ℕ) → FoundAt b base n i → ⊥) → FirstGiven (take_checks base n a.facts) BadBase
  take_nowhere none = inl (nobody, refl)
    where
      nobody : (r : Range) → JustThat a.facts base n r → ⊥
      nobody r j =
          let x = Of.listed_range b a r j.0 in
          none x.0
          (record {
            listed = x.1;
            base_is = sym (Of.range_base_lem b a x.0) ∙ (rw x.2 at j.1);
            count_is = sym (Of.range_count_lem b a x.0) ∙ (rw x.2 at j.2);
          })

  -- a card that is granted ports answers in the range exactly if they meet those of the range
  met_answered : {i : ℕ} → FoundAt b base n i → MeetsHeld a.facts (whole base n) → RangeAnswered a.facts (range_in b i)
  met_answered {i} f m =
      let here = ((Of.sound_in b a).ranges i f.listed).within in
      let ports = m.range.ports in
      let x =
      meet_answers ports (a.formed.ios m.seat m.range m.held).lines base n (omega (arith, here, f.base_is, f.count_is))
      (meet_symmetric (whole base n) ports m.meets) in
      let has : Has (range_in b i) x.0 = omega (arith, x.1, Of.range_base_lem b a i, Of.range_count_lem b a i, f.base_is, f.count_is) in search

  answered_met : (r : Range) → JustThat a.facts base n r → RangeAnswered a.facts r → MeetsHeld a.facts (whole base n)
  answered_met r j x =
      let ports = x.range.ports in
      let met =
      answers_meet ports (a.formed.ios x.seat x.range x.held).lines base n x.port x.answers
      (omega (arith, x.has, j.1, j.2)) in
      record { seat = x.seat; range = x.range; held = x.held; meets = meet_symmetric ports (whole base n) met }

  module _ {i : ℕ} (f : FoundAt b base n i) where
    -- the range in the place i is the one
    just : JustThat a.facts base n (range_in b i)
    just = (Of.range_listed b a i f.listed, Of.range_base_lem b a i ∙ f.base_is, Of.range_count_lem b a i ∙ f.count_is)

    pub take_held : MeetsHeld (facts_in b) (whole base n) → FirstGiven (take_checks base n a.facts) InUse
    take_held met = inr ((λ none. none _ just), inl ((_, just, met_answered f (rw (Of.facts_in_lem b a) met)), refl))

    pub take_made : {b' : List ℕ} → (MeetsHeld (facts_in b) (whole base n) → ⊥) → TakenOut b b' head_ranges (range_place i) range_size handles_at
        → TakesRange base n b b' (Ok (tt {0}))
    take_made {b'} silent out =
        becomes _ _ _ a _
        (((λ none. none _ just), ((λ x. silent (rw (Of.facts_in_lem b a) at (answered_met x.0 x.1 x.2))), tt)), refl)
        (subst (λ (x : ℕ). image (range_removed a.facts x) ≡ b') f.base_is (range_taken_out b b' a i f.listed out))

-- the record of a range, written where there is room for it
module _ {b b₁ b₂ b₃ : List ℕ} {at base n : ℕ} (reserved : ℕ) (size : length b ≡ table_size) (high : head_ranges < at)
    (low : at + range_size ≤ handles_at) (bound : base < 65536) (bound4 : n < 4294967296)
    (m : RoomMade b b₁ head_ranges at range_size handles_at)
    (e₂ : b₂ ≡ with_word b₁ at base) (e₃ : b₃ ≡ with_long b₂ (at + range_count_at) n) where
  abbrev written : List ℕ
  written = set b₃ (at + range_reserved_at) reserved

  size₂ : length b₂ ≡ table_size
  size₂ = ap length e₂ ∙ word_length b₁ at base ∙ m.size ∙ size

  size₃ : length b₃ ≡ table_size
  size₃ = ap length e₃ ∙ long_length b₂ (at + range_count_at) n ∙ size₂

  -- the bytes but for the last five are those that the base leaves
  based : (p : ℕ) → p ≢ at + range_reserved_at → (p < at + range_count_at) ⊎ (at + range_count_at + 4 ≤ p)
      → byte written p ≡ byte (with_word b₁ at base) p
  based p d o =
      byte_other b₃ (at + range_reserved_at) reserved p d ∙ ap (λ (x : List ℕ). byte x p) e₃ ∙ long_other b₂ (at + range_count_at) n p o
      ∙ ap (λ (x : List ℕ). byte x p) e₂

  -- those outside of the record are those of the table with room
  outside : (p : ℕ) → (p < at) ⊎ (at + range_size ≤ p) → byte written p ≡ byte b₁ p
  outside p (inl l) = based p (omega arith) (inl (omega arith)) ∙ word_other b₁ at base p (omega arith) (omega arith)
  outside p (inr l) = based p (omega arith) (inr (omega arith)) ∙ word_other b₁ at base p (omega arith) (omega arith)

  -- the four of its count
  count_new : (j : ℕ) → j < 4 → byte written (at + (2 + j)) ≡ get_or (four n) j 0
  count_new j l =
      ap (byte written) (omega arith) ∙ byte_other b₃ (at + range_reserved_at) reserved (at + range_count_at + j) (omega arith)
      ∙ ap (λ (x : List ℕ). byte x (at + range_count_at + j)) e₃ ∙ long_bytes b₂ (at + range_count_at) n (omega (arith, size₂)) bound4 j l

  record_new : (j : ℕ) → j < range_size → byte written (at + j) ≡ get_or (two base ++ four n ++ reserved ∷ []) j 0
  record_new =
      let first : byte written (at + 0) ≡ get_or (two base) 0 0 =
      based (at + 0) (omega arith) (inl (omega arith)) ∙ ap (byte (with_word b₁ at base)) (add-zero at)
      ∙ word_low b₁ at base (omega (arith, m.size, size)) in
      let second : byte written (at + 1) ≡ get_or (two base) 1 0 =
      based (at + 1) (omega arith) (inl (omega arith)) ∙ word_high b₁ at base (omega (arith, m.size, size)) ∙ omega arith in
      let last = byte_same b₃ (at + range_reserved_at) reserved (omega (arith, size₃)) in
      let c = count_new in
      below_at 7 (λ j. byte written (at + j) ≡ get_or (two base ++ four n ++ reserved ∷ []) j 0)
      (((((((tt, first), second), c 0 (omega arith)), c 1 (omega arith)), c 2 (omega arith)), c 3 (omega arith)), last)

  pub enters : PutIn b written head_ranges at handles_at (two base ++ four n ++ reserved ∷ [])
  enters =
      record {
        size = length-set b₃ (at + range_reserved_at) reserved ∙ size₃ ∙ sym size;
        more = outside head_ranges (inl high) ∙ m.more;
        new = record_new;
        moved = λ p l h. outside (p + range_size) (inr (omega arith)) ∙ m.moved p l h;
        other = kept;
      }
    where
      kept : (p : ℕ) → p ≢ head_ranges → (p < at) ⊎ (handles_at ≤ p) → byte written p ≡ byte b p
      kept p d (inl l) = outside p (inl l) ∙ m.other p d (inl (omega arith))
      kept p d (inr l) = outside p (inr (omega arith)) ∙ m.other p d (inr l)
