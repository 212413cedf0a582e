-- How managed levels and ranges turn: Add and Remove, and the records of a boot list. Assumes nothing.
use Rattle.facts.proofs.Words.{◌≡◌, refl, ap, sym, ◌∙◌, subst, ◌⊎◌, inl, inr, ⊎_elim, ◌≢◌, List, [], ◌∷◌, Bool, cond, true, false, false≢true, ℕ}
use Rattle.facts.proofs.Words.{zero, suc, ◌+◌, ◌*◌, ◌≤◌, ℕ_discrete, dec_le, arith, length, take, eqb, eqb-true, eqb-false, WellFormed}
use Rattle.facts.specs.{Code, Record, Facts, Level, Range, ◌∈◌, Passed, without_range, level_added, level_removed, range_added, range_removed, reserves}
use Rattle.facts.specs.{io_range, irq_level, NotBuilt, add_level_checks, add_range_checks, remove_range_checks, BootBytes, Booted, ended, refused, added}
use Rattle.facts.specs.{record_size, records_in, records_of, end_of, record_checks, record_added, most_lines}
use Rattle.facts.specs.Boot.{Boot}
use Rattle.facts.proofs.{put_same, in_without, without_in, apart_left_out, told, range_unique, three_or_four, boot_place, host_laws, bytes_laws}
use Rattle.facts.proofs.{inserted_in, in_inserted, new_inserted}
use Rattle.history.specs.{Fact, level, range, Recorded, level_recorded, range_recorded, Tells}
use Rattle.history.proofs.Turns.{Turned, Turns, unissued, by_kind, unturned}
use Rattle.history.proofs.Grants.{level_turns}
use Rattle.history.proofs.Inverse.{recorded_only}

-- what is made, alone
module _ (F : Facts) (Back New : Fact → Type 0) (keeps : (f : Fact) → Back f → ⊥) where
  pub level_added_turns : (l attributes : ℕ) → Passed (add_level_checks F l attributes) → New (level l (reserves attributes))
      → ((f : Fact) → New f → f ≡ level l (reserves attributes)) → Turns Back New 0 F (level_added F l attributes)
  level_added_turns l attributes passed new only =
      level_turns F l Back New (record { managed = true; reserved = reserves attributes })
      (λ f m. subst (Tells (level_added F l attributes)) (sym (only f m)) (put_same F.level l _)) (λ f b t. keeps f b)
      (λ r e. absurd (passed.1.1.0 (ap (λ (v : Level). v.managed) e)))
      (λ r e. inl (subst (λ (t : Bool). New (level l t)) (ap (λ (v : Level). v.reserved) e) new))

  pub range_added_turns : (base count attributes : ℕ) → New (range (record { base = base; count = count; reserved = reserves attributes }))
      → ((f : Fact) → New f → f ≡ range (record { base = base; count = count; reserved = reserves attributes }))
      → Turns Back New 0 F (range_added F base count attributes)
  range_added_turns base count attributes new only =
      unissued refl refl (λ f m. subst (Tells (range_added F base count attributes)) (sym (only f m)) (new_inserted this F.ranges)) (λ f b t. keeps f b)
      (by_kind (Turned F (range_added F base count attributes) Back New) (λ h a m. (inr, inr)) (λ h s m. (inr, inr)) (λ l r. (inr, inr))
      (λ r. (
        (λ i. inr (in_inserted this r F.ranges i)),
        (λ i. ⊎_elim (λ e. inl (subst (λ (x : Range). New (range x)) (sym e) new)) inr (inserted_in this r F.ranges i)),
      ))
      (λ s. (inr, inr)) (λ s g. (inr, inr)) (λ s g. (inr, inr)))
    where
      this : Range
      this = record { base = base; count = count; reserved = reserves attributes }

-- what is given back, alone
module _ (F : Facts) (Back New : Fact → Type 0) (none : (f : Fact) → New f → ⊥) where
  pub level_removed_turns : (l : ℕ) → ((r : Bool) → Back (level l r)) → ((f : Fact) → Back f → (r : Bool) × (f ≡ level l r))
      → Turns Back New 0 F (level_removed F l)
  level_removed_turns l back only =
      level_turns F l Back New (record { managed = false; reserved = false }) (λ f m. absurd (none f m))
      (λ f b t. unmanaged (only f b).0 (subst (Tells (level_removed F l)) (only f b).1 t)) (λ r e. inl (back r))
      (λ r e. absurd (false≢true (ap (λ (v : Level). v.managed) e)))
    where
      unmanaged : (r : Bool) → Tells (level_removed F l) (level l r) → ⊥
      unmanaged r e = false≢true (ap (λ (v : Level). v.managed) (sym (put_same F.level l _) ∙ e))

  pub range_removed_turns : (base count attributes lines : ℕ) → WellFormed F → Passed (remove_range_checks F base count attributes lines)
      → ((r : Bool) → Back (range (record { base = base; count = count; reserved = r })))
      → ((f : Fact) → Back f → (r : Bool) × (f ≡ range (record { base = base; count = count; reserved = r })))
      → Turns Back New 0 F (range_removed F base)
  range_removed_turns base count attributes lines w passed back only =
      unissued refl refl (λ f m. absurd (none f m)) (λ f b t. gone (only f b).0 (subst (Tells (range_removed F base)) (only f b).1 t))
      (by_kind (Turned F (range_removed F base) Back New) (λ h a m. (inr, inr)) (λ h s m. (inr, inr)) (λ l r. (inr, inr))
      (λ r. ((λ i. kept r i (ℕ_discrete r.base base)), (λ i. inr (without_in number base r F.ranges i)))) (λ s. (inr, inr)) (λ s g. (inr, inr))
      (λ s g. (inr, inr)))
    where
      number : Range → ℕ
      number r = r.base

      gone : (r : Bool) → Tells (range_removed F base) (range (record { base = base; count = count; reserved = r })) → ⊥
      gone r i = apart_left_out 0 base F.ranges w.apart (record { base = base; count = count; reserved = r }) i refl

      -- the range at the base has the count, for there is one with both
      counted : (r : Range) → r ∈ F.ranges → r.base ≡ base → r.count ≡ count
      counted r i e =
          told (ℕ_discrete r.count count)
          (λ d. passed.1.1.1.0
          (λ x just. d (ap (λ (y : Range). y.count) (range_unique 0 F.ranges r x w.apart i just.0 (e ∙ sym just.1)) ∙ just.2)))

      kept : (r : Range) → r ∈ F.ranges → Dec (r.base ≡ base) → Back (range r) ⊎ (r ∈ without_range base F.ranges)
      kept r i (yes e) =
          inl (subst Back (λ k. range (record { base = sym e k; count = sym (counted r i e) k; reserved = r.reserved })) (back r.reserved))
      kept r i (no d) = inr (in_without number base r F.ranges i d)

-- one record of a boot list
pub record_turns : (F : Facts) (r : Record) → Passed (record_checks F r) → Turns (λ (f : Fact). ⊥) (Recorded r) 0 F (record_added F r)
record_turns F r passed =
    marked_or_not (eqb r.resource io_range) (eqb-true r.resource io_range) (eqb-false r.resource io_range) passed.1.1
  where
    -- a resource that is built and isn't I/O is a level
    is_level : r.resource ≢ io_range → r.resource ≡ irq_level
    is_level d = told (ℕ_discrete r.resource irq_level) (λ n. passed.0 (other n (dec_le 3 r.resource)))
      where
        most : r.resource ≤ 4
        most = told (dec_le r.resource 4) (λ n. passed.1.0 (omega arith))

        other : r.resource ≢ irq_level → Dec (3 ≤ r.resource) → NotBuilt r.resource
        other n (yes l) = three_or_four r.resource l most
        other n (no l) = inl (omega (arith, d, n, l))

    marked_or_not : (t : Bool) → (t ≡ true → r.resource ≡ io_range) → (t ≡ false → r.resource ≡ io_range → ⊥)
        → Passed (cond t (add_range_checks F r.base r.count r.attributes most_lines) (add_level_checks F r.base r.attributes))
        → Turns (λ (f : Fact). ⊥) (Recorded r) 0 F (cond t (range_added F r.base r.count r.attributes) (level_added F r.base r.attributes))
    marked_or_not true io not passed =
        range_added_turns F _ (Recorded r) (λ f b. b) r.base r.count r.attributes (range_recorded (io refl))
        (recorded_only (λ (f : Fact). f ≡ range (record { base = r.base; count = r.count; reserved = reserves r.attributes }))
        (λ e. absurd (omega (arith, e, io refl))) (λ e. refl))
    marked_or_not false io not passed =
        level_added_turns F _ (Recorded r) (λ f b. b) r.base r.attributes passed (level_recorded (is_level (not refl)))
        (recorded_only (λ (f : Fact). f ≡ level r.base (reserves r.attributes)) (λ e. refl) (λ e. absurd (not refl e)))

-- records of a boot list
abbrev pub RecordsMake : List Record → Fact → Type 0
RecordsMake rs f = (r : Record) × (r ∈ rs) × Recorded r f

none_turns : (F : Facts) → Turns (λ (f : Fact). ⊥) (RecordsMake []) 0 F F
none_turns F = unturned F (λ f b. b) (λ f m. m.1)

-- one record, and then others
more_turns : {F G H : Facts} (r : Record) (rs : List Record) → Turns (λ (f : Fact). ⊥) (Recorded r) 0 F G
    → Turns (λ (f : Fact). ⊥) (RecordsMake rs) 0 G H → Turns (λ (f : Fact). ⊥) (RecordsMake (r ∷ rs)) 0 F H
more_turns {F} {G} {H} r rs t u =
    record {
      made = λ f m. ⊎_elim (λ e. stays f (t.made f (subst (λ (x : Record). Recorded x f) e m.2))) (λ i. u.made f (m.0, i, m.2)) m.1;
      gone = λ f b _. b;
      each = λ f. (
        (λ x. inr (stays f (⊎_elim absurd (λ y. y) ((t.each f).0 x)))),
        (λ x. ⊎_elim (λ m. inl (m.0, inr m.1, m.2)) (λ y. ⊎_elim (λ m. inl (r, inl refl, m)) inr ((t.each f).1 y)) ((u.each f).1 x)),
      );
      issued = omega (arith, t.issued, u.issued);
      sockets = u.sockets ∙ t.sockets;
    }
  where
    stays : (f : Fact) → Tells G f → Tells H f
    stays f x = ⊎_elim absurd (λ y. y) ((u.each f).0 x)

module _ (e : Code) where
  pub boot_turns : (F : Facts) (rs : List Record) (i : ℕ) (o : Booted) (n : ℕ) → Boot e F rs i o → o.place ≡ i + n
      → Turns (λ (f : Fact). ⊥) (RecordsMake (take n rs)) 0 F o.facts
  boot_turns F [] i o zero ended is = none_turns F
  boot_turns F [] i o (suc n) ended is = none_turns F
  boot_turns F (r ∷ rs) i o zero (refused g) is = none_turns F
  boot_turns F (r ∷ rs) i o (suc n) (refused g) is = absurd (omega arith)
  boot_turns F (r ∷ rs) i o zero (added p b) is = absurd (omega (arith, boot_place e _ _ _ o b))
  boot_turns F (r ∷ rs) i o (suc n) (added p b) is =
      more_turns r (take n rs) (record_turns F r p) (boot_turns (record_added F r) rs _ o n b (omega arith))

-- lent as bytes
pub bytes_turns : (F : Facts) (b : List ℕ) (o : Booted) → BootBytes F b o
    → Turns (λ (f : Fact). ⊥) (RecordsMake (records_in o.place b)) 0 F o.facts
bytes_turns F b o r =
    subst (λ (rs : List Record). Turns (λ (f : Fact). ⊥) (RecordsMake rs) 0 F o.facts) (bytes_laws.before b o.place within)
    (boot_turns (end_of b) F (records_of b) 0 o o.place r (omega arith))
  where
    within : o.place * record_size ≤ length b
    within = omega (arith, host_laws.boot_within (end_of b) F (records_of b) o r, bytes_laws.counted b)
