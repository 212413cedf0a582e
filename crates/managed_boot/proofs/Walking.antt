-- A walk along a boot list, some records at a time, is the rule's. Assumes nothing.
use Rattle.facts.proofs.Words.{◌≡◌, refl, ap, sym, ◌∙◌, subst, ◌≢◌, inr, List, [], ◌∷◌, ◌++◌, Bool, true, false, cond, ℕ, ◌+◌, ◌*◌, ◌≤◌}
use Rattle.facts.proofs.Words.{◌<◌, add-zero, add-one, add_assoc, arith, eqb, length, get_or, drop, length-drop, drop_of_length-le, drop-cons}
use Rattle.facts.proofs.Words.{drop-drop, eq-eqb, ne_eqb}
use Rattle.facts.specs.Boot as rule
use Rattle.facts.specs.{Code, Success, BadArgLength, Record, number_of, Facts, Check, FirstGiven, Passed, NotBuilt}
use Rattle.facts.specs.{io_range, irq_level, add_level_checks, add_range_checks, level_added, range_added, stopped, ended, refused, added, record_size}
use Rattle.facts.specs.{records_in, records_of, end_of, record_checks, most_lines}
use Rattle.facts.specs.Boot.{Boot}
use Rattle.facts.proofs.{is_built, boot_stays, record_no_success, first_not_success, boot_within, boot_success, records_length, bytes_laws}
use Rattle.layout.specs.{Accepted}
use Rattle.layout.specs.Served.{Served}
use Rattle.layout.proofs.{image_size, size_in, one_set, stays}
use Rattle.std.specs.Prelude.{Result, Ok, Err}
use Rattle.managed_changes.specs.{Changes, ResourceIs}
use Rattle.managed_levels.specs.{AddsLevel}
use Rattle.managed_ranges.specs.{AddsRange}
use Rattle.managed_changes.proofs.{served_as, type_refused}
use Rattle.managed_boot.specs.declared.Stopped.{Stopped}
use Rattle.managed_boot.specs.{AddsRecord, Refuses, Ends, BootsRecords, Boots, place_of, code_of}
use Rattle.managed_boot.proofs.Bytes.{records_past, end_past}

-- one record: its resource type is built, and its own checks rule
module _ (r : Record) (b b' : List ℕ) where
  -- the checks and what is added, by whether it is a range
  abbrev Own : Bool → Facts → List Check
  Own io F = cond io (add_range_checks F r.base r.count r.attributes most_lines) (add_level_checks F r.base r.attributes)

  abbrev Added : Bool → Facts → Facts
  Added io F = cond io (range_added F r.base r.count r.attributes) (level_added F r.base r.attributes)

  module _ (io : Bool) (is : eqb r.resource io_range ≡ io) (least : 1 ≤ r.resource) (most : r.resource ≤ 2) where
    built : NotBuilt r.resource → ⊥
    built = is_built r.resource (omega arith) (omega arith) (omega arith)

    own_adds : (c : Result (Unit {0}) Code) → Changes (Own io) (Added io) b b' c → AddsRecord r b b' c
    own_adds (Ok x) =
        served_as
        (λ F G x. ((built, (omega arith, subst (λ (t : Bool). Passed (Own t F)) (sym is) x.0)), x.1 ∙ ap (λ (t : Bool). Added t F) (sym is)))
    own_adds (Err k) =
        served_as (λ F G x. (inr (built, inr (omega arith, subst (λ (t : Bool). FirstGiven (Own t F) k) (sym is) x.0)), x.1))

  pub range_adds : (c : Result (Unit {0}) Code) → r.resource ≡ io_range → AddsRange r.base r.count r.attributes most_lines b b' c → AddsRecord r b b' c
  range_adds c e = own_adds true (eq-eqb r.resource io_range e) (omega (arith, e)) (omega (arith, e)) c

  pub level_adds : (c : Result (Unit {0}) Code) → r.resource ≡ irq_level → AddsLevel r.base r.attributes b b' c → AddsRecord r b b' c
  level_adds c e = own_adds false (ne_eqb r.resource io_range (λ f. omega (arith, e, f))) (omega (arith, e)) (omega (arith, e)) c

-- and where the type is refused nothing is
pub type_stays : (r : Record) (b : List ℕ) (k : Code) → Accepted b → ResourceIs r.resource (Err k) → AddsRecord r b b (Err k)
type_stays r b k a over = stays _ _ a (type_refused _ _ over, refl)

-- one record, lent as a list of one
module _ {r : Record} {b b' : List ℕ} where
  one_made : AddsRecord r b b' (Ok tt) → BootsRecords (r ∷ []) b b' (Ok 1)
  one_made s = (served_as (λ F G x. added x.0 (rw x.1 ended)) s, tt)

  one_refused : {k : Code} → AddsRecord r b b' (Err k) → BootsRecords (r ∷ []) b b' (Err (record { place = 0; code = k }))
  one_refused {k} s = (
    served_as (λ F G x. rw x.1 (refused x.0)) s,
    first_not_success (record_checks s.accepted.facts r) k (record_no_success s.accepted.facts r) s.rule.0,
  )

later : {e : Code} (d j : ℕ) {F : Facts} {rs : List Record} {o : rule.Booted} → Boot e F rs (d + (j + 1)) o → Boot e F rs ((d + j) + 1) o
later d j = rw add_assoc (λ x. x)

-- the first records of a list are added, and others follow; or one of the first is refused. What stands first begins at the place j of its own, and
-- at d places more of the whole
module _ {e : Code} (left : List Record) (d : ℕ) where
  goes_past : (j : ℕ) {F : Facts} {xs : List Record} {x o : rule.Booted} → Boot Success F xs j x → x.code ≡ Success
      → Boot e x.facts left (d + x.place) o
      → Boot e F (xs ++ left) (d + j) o
  goes_past j ended s r = r
  goes_past j {F} {x = x} (refused {r = y} f) s r = absurd (first_not_success (record_checks F y) x.code (record_no_success F y) f s)
  goes_past j (added p q) s r = added p (later d j (goes_past (j + 1) q s r))

  stops_within : (j : ℕ) {F : Facts} {xs : List Record} {x : rule.Booted} → Boot Success F xs j x → x.code ≢ Success
      → Boot e F (xs ++ left) (d + j) (stopped (d + x.place) x.code x.facts)
  stops_within j ended n = absurd (n refl)
  stops_within j (refused f) n = refused f
  stops_within j (added p q) n = added p (later d j (stops_within (j + 1) q n))

-- the list rs, where the code e is given at its end, ends so
abbrev EndsAs : Code → List Record → List ℕ → List ℕ → Result ℕ Stopped → Type 0
EndsAs e rs = Ends (λ (F : Facts). Boot e F rs 0)

-- a walk along the list `rs`, where the code e is given at its end, has come from the table b to the table b' and to a place, and these records are
-- left; what they permit from there, the whole list permits from the start
pub record Walked (e : Code) (rs : List Record) (b b' : List ℕ) (place : ℕ) (left : List Record) : Type 0 where
  pub first : Accepted b
  pub here : Accepted b'
  pub goes_on : (o : rule.Booted) → Boot e here.facts left place o → Boot e first.facts rs 0 o

pub walked_none : {e : Code} {rs : List Record} {b : List ℕ} → Accepted b → Walked e rs b b 0 rs
walked_none a = record { first = a; here = a; goes_on = λ o r. r }

pub ends_length : {R : Facts → Facts → Type 0} {b b' : List ℕ} → Served R b b' → length b' ≡ length b
ends_length {b = b} s = ap length (sym s.table) ∙ image_size s.after ∙ sym (size_in b s.accepted)

module _ {e : Code} {rs : List Record} {b b' : List ℕ} {place : ℕ} where
  pub walked_length : {left : List Record} → Walked e rs b b' place left → length b' ≡ length b
  walked_length w = size_in b' w.here ∙ sym (size_in b w.first)

  -- where none is left, the list ends
  pub walked_all : (r : Result ℕ Stopped) → Walked e rs b b' place [] → place_of r ≡ place → code_of r ≡ e → Refuses r → EndsAs e rs b b' r
  walked_all r w p k n = (
    record {
      accepted = w.first;
      after = w.here.facts;
      rule = rw (p, k) (w.goes_on (stopped place e w.here.facts) ended);
      table = w.here.is;
    },
    n,
  )

  -- the next records are added, or one of them is refused
  module _ (xs left : List Record) (w : Walked e rs b b' place (xs ++ left)) where
    -- the facts of a table are one set
    from : (a : Accepted b') (o : rule.Booted) → Boot e a.facts (xs ++ left) (place + 0) o → Boot e w.first.facts rs 0 o
    from a o r =
        w.goes_on o
        (rw (add-zero, one_set b' a.facts w.here.facts a.formed w.here.formed a.is w.here.is) at r)

    pub walked_more : {b'' : List ℕ} {n : ℕ} → BootsRecords xs b' b'' (Ok n) → Walked e rs b b'' (place + n) left
    walked_more s =
        let t = s.0 in
        let formed = boot_stays _ _ _ _ _ t.accepted.formed t.rule in
        record {
          first = w.first;
          here = record { facts = t.after; formed = formed; is = t.table };
          goes_on = λ o r. from t.accepted o (goes_past left place 0 t.rule refl r);
        }

    pub walked_stopped : {b'' : List ℕ} {i : ℕ} {k : Code} → BootsRecords xs b' b'' (Err (record { place = i; code = k })) → EndsAs e rs b b'' (Err (record { place = place + i; code = k }))
    walked_stopped s =
        let t = s.0 in
        let rule = from t.accepted _ (stops_within left place 0 t.rule s.1) in
        (record { accepted = w.first; after = t.after; rule = rule; table = t.table }, s.1)

-- a walk record by record: the rest of the list begins at the place
module _ {rs : List Record} {b b' : List ℕ} {place : ℕ} (w : Walked Success rs b b' place (drop place rs)) where
  pub walked_through : length rs ≤ place → BootsRecords rs b b' (Ok place)
  walked_through l = walked_all (Ok place) (rw (drop_of_length-le rs l) at w) refl refl tt

  module _ (d : Record) (l : place < length rs) where
    -- the record at the place, and those after it
    at : Walked Success rs b b' place ((get_or rs place d ∷ []) ++ drop (place + 1) rs)
    at = rw add-one (rw (drop-cons rs place d l) at w)

    pub walked_one : {b'' : List ℕ} → AddsRecord (get_or rs place d) b' b'' (Ok tt) → Walked Success rs b b'' (place + 1) (drop (place + 1) rs)
    walked_one s = walked_more (get_or rs place d ∷ []) (drop (place + 1) rs) at (one_made s)

    pub walked_refused : {b'' : List ℕ} {k : Code} → AddsRecord (get_or rs place d) b' b'' (Err k) → BootsRecords rs b b'' (Err (record { place = place; code = k }))
    walked_refused {b''} {k} s =
        subst (λ (i : ℕ). EndsAs Success rs b b'' (Err (record { place = i; code = k }))) (add-zero place)
        (walked_stopped (get_or rs place d ∷ []) (drop (place + 1) rs) at (one_refused s))

-- a walk along a list's bytes, some records at a time: those left begin at the byte `at`
module _ (bytes : List ℕ) {b b' : List ℕ} {place : ℕ} (at : ℕ)
    (w : Walked (end_of bytes) (records_of bytes) b b' place (records_of (drop at bytes))) where
  pub bytes_all : at ≡ place * record_size → length bytes ≤ at → at ≤ length bytes → Boots bytes b b' (Ok place)
  bytes_all e l m =
      walked_all (Ok place) (subst (Walked _ _ b b' place) (bytes_laws.same_list (drop at bytes) 0 (omega (arith, length-drop at bytes))).0 w) refl
      (sym (bytes_laws.same_list bytes place (omega arith)).1) tt

  pub bytes_broken : at ≡ place * record_size → at < length bytes → length bytes < at + record_size → Boots bytes b b' (Err (record { place = place; code = BadArgLength }))
  bytes_broken e l m =
      walked_all (Err (record { place = place; code = BadArgLength })) (subst (Walked _ _ b b' place) few.0 w) refl
      (sym (end_past place bytes (omega arith) ∙ ap (λ (n : ℕ). end_of (drop n bytes)) (sym e) ∙ few.1)) (λ f. omega (arith, ap number_of f))
    where
      few : (records_of (drop at bytes) ≡ []) × (end_of (drop at bytes) ≡ BadArgLength)
      few = bytes_laws.few (drop at bytes) (omega (arith, length-drop at bytes)) (omega (arith, length-drop at bytes))

  module _ (n : ℕ) (full : at + n * record_size ≤ length bytes) where
    -- the next n records, and those after them
    abbrev next : List Record
    next = records_in n (drop at bytes)

    abbrev after : List Record
    after = records_of (drop (at + n * record_size) bytes)

    ahead : Walked (end_of bytes) (records_of bytes) b b' place (next ++ after)
    ahead =
        subst (Walked _ _ b b' place)
        (records_past n (drop at bytes) (omega (arith, length-drop at bytes))
        ∙ ap (λ (l : List ℕ). next ++ records_of l) (drop-drop (n * record_size) at bytes)) w

    pub bytes_more : {b'' : List ℕ} {m : ℕ} → BootsRecords next b' b'' (Ok m) → Walked (end_of bytes) (records_of bytes) b b'' (place + n) after
    bytes_more {b''} {m} s =
        let all : m ≡ n = omega (arith, (boot_success _ _ _ _ _ s.0.rule refl).1, records_length n (drop at bytes)) in
        subst (λ (k : ℕ). Walked (end_of bytes) (records_of bytes) b b'' (place + k) after) all (walked_more next after ahead s)

    pub bytes_stopped : {b'' : List ℕ} {i : ℕ} {k : Code} → BootsRecords next b' b'' (Err (record { place = i; code = k })) → (i ≤ n) × Boots bytes b b'' (Err (record { place = place + i; code = k }))
    bytes_stopped s =
        (omega (arith, boot_within _ _ _ _ _ s.0.rule, records_length n (drop at bytes)), walked_stopped next after ahead s)
