-- AdjustResourceInfo and the boot list leave a well-formed set well formed. Assumes nothing.
use Rattle.facts.proofs.Words.{◌≡◌, refl, ap, sym, ◌∙◌, subst, subst⁻¹, ◌⊎◌, inl, inr, ⊎_elim, ◌≢◌, List, [], ◌∷◌, ℕ, suc, ◌+◌, ◌≤◌, ◌<◌}
use Rattle.facts.proofs.Words.{dec_le, dec_lt, arith, eqb, ltb, length, ltb-true, ltb-false, WellFormed}
use Rattle.facts.specs.{action_of, show_level_checks, show_range_checks, Code, Width, Record, Facts, Range, ◌∈◌, Has, Managed, Answers, Apart}
use Rattle.facts.specs.{Outcome, Passed, AdjustResourceInfo, AdjustIrq, AdjustIo, inserted, without_range, add_level_checks, remove_level_checks}
use Rattle.facts.specs.{add_range_checks, remove_range_checks, level_added, level_removed, range_added, range_removed, reserve_bit, level_given}
use Rattle.facts.specs.{level_attributes, base_given, count_given, attributes_given, lines_given, Booted, ended, refused, added, record_added}
use Rattle.facts.specs.{record_checks, all_levels, all_ports, most_lines, most_ranges, Seat, HeldPorts, Held}
use Rattle.facts.specs.Boot.{Boot}
use Rattle.facts.proofs.Sets.{cond_cases, without_in, in_without, without_fewer, apart_without}
use Rattle.facts.proofs.Unique.{range_unique}
use Rattle.facts.proofs.Told.{told}
use Rattle.facts.proofs.Boot.{by_resource}
use Rattle.facts.proofs.Formed.{managed_in_lem, level_formed, ranges_formed, ruled_stays, leaves_stays}

-- levels
module _ (F : Facts) (w : WellFormed F) (l attributes : ℕ) where
  pub level_added_formed : Passed (add_level_checks F l attributes) → WellFormed (level_added F l attributes)
  level_added_formed passed =
      level_formed F w l _ (told (dec_lt l all_levels) (λ d. passed.1.0 (omega arith))) (λ e. refl) (λ s g e q. refl)

  pub level_removed_formed : Passed (remove_level_checks F l attributes) → WellFormed (level_removed F l)
  level_removed_formed passed =
      level_formed F w l _ (told (dec_lt l all_levels) (λ d. passed.1.0 (omega arith))) (λ e. e)
      (λ s g e q. absurd (passed.1.1.1.0 (record { seat = s; grant = g; holds = record { live = e; at = q } })))

-- ranges: one put in its place
pub inserted_cases : (P : List Range → Type 0) (r x : Range) (xs : List Range) → (r.base < x.base → P (r ∷ x ∷ xs))
    → (x.base ≤ r.base → P (x ∷ inserted r xs))
    → P (inserted r (x ∷ xs))
inserted_cases P r x xs before after =
    cond_cases P (ltb r.base x.base) (r ∷ x ∷ xs) (x ∷ inserted r xs) (λ e. before (ltb-true r.base x.base e))
    (λ e. after (ltb-false r.base x.base e))

pub inserted_more : (r : Range) (xs : List Range) → length (inserted r xs) ≡ suc (length xs)
inserted_more r [] = refl
inserted_more r (x ∷ xs) = inserted_cases (λ (l : List Range). length l ≡ suc (suc (length xs))) r x xs (λ b. refl) (λ b. ap suc (inserted_more r xs))

pub inserted_in : (r y : Range) (xs : List Range) → y ∈ inserted r xs → (y ≡ r) ⊎ (y ∈ xs)
inserted_in r y [] m = m
inserted_in r y (x ∷ xs) m =
    inserted_cases (λ (l : List Range). y ∈ l → (y ≡ r) ⊎ (y ∈ (x ∷ xs))) r x xs (λ b k. k)
    (λ b. ⊎_elim (λ e. inr (inl e)) (λ k. ⊎_elim inl (λ n. inr (inr n)) (inserted_in r y xs k))) m

pub in_inserted : (r y : Range) (xs : List Range) → y ∈ xs → y ∈ inserted r xs
in_inserted r y [] m = absurd m
in_inserted r y (x ∷ xs) m =
    inserted_cases (λ (l : List Range). y ∈ l) r x xs (λ b. inr m) (λ b. ⊎_elim inl (λ k. inr (in_inserted r y xs k)) m)

pub new_inserted : (r : Range) (xs : List Range) → r ∈ inserted r xs
new_inserted r [] = inl refl
new_inserted r (x ∷ xs) = inserted_cases (λ (l : List Range). r ∈ l) r x xs (λ b. inl refl) (λ b. inr (new_inserted r xs))

-- ranges that have no port of another
abbrev Clear : Range → List Range → Type 0
Clear r xs = (x : Range) → x ∈ xs → (p : ℕ) → Has r p → Has x p → ⊥

apart_inserted : (r : Range) (lo : ℕ) (xs : List Range) → lo ≤ r.base → 1 ≤ r.count → Clear r xs → Apart lo xs → Apart lo (inserted r xs)
apart_inserted r lo [] l c clear a = (l, c, tt)
apart_inserted r lo (x ∷ xs) l c clear a =
    inserted_cases (Apart lo) r x xs (λ b. (l, c, (before b, a.1, a.2)))
    (λ b. (a.0, a.1, apart_inserted r (x.base + x.count) xs (after b) c (λ y m. clear y (inr m)) a.2))
  where
    before : r.base < x.base → r.base + r.count ≤ x.base
    before b = told (dec_le (r.base + r.count) x.base) (λ d. clear x (inl refl) x.base (omega arith) (omega (arith, a.1)))

    after : x.base ≤ r.base → x.base + x.count ≤ r.base
    after b = told (dec_le (x.base + x.count) r.base) (λ d. clear x (inl refl) r.base (omega arith) (omega arith))

module _ (F : Facts) (w : WellFormed F) (base count attributes lines : ℕ) where
  pub range_added_formed : Passed (add_range_checks F base count attributes lines) → WellFormed (range_added F base count attributes)
  range_added_formed passed =
      ranges_formed F w (inserted new F.ranges) (omega (arith, room, inserted_more new F.ranges))
      (apart_inserted new 0 F.ranges (omega arith) port clear w.apart)
      (λ r m. ⊎_elim (λ e. subst (λ (x : Range). x.base + x.count ≤ all_ports) (sym e) within) (w.ranges r) (inserted_in new r F.ranges m))
      (λ s g e p a. managed_in_lem F _ (λ r m. in_inserted new r F.ranges m) p)
    where
      new : Range
      new = record { base = base; count = count; reserved = eqb attributes reserve_bit }

      port : 1 ≤ count
      port = told (dec_le 1 count) (λ d. passed.1.0 (inl (omega arith)))

      within : base + count ≤ all_ports
      within = told (dec_le (base + count) all_ports) (λ d. passed.1.1.0 (omega arith))

      room : length F.ranges < most_ranges
      room = told (dec_lt (length F.ranges) most_ranges) (λ d. passed.1.1.1.1.0 (omega arith))

      clear : Clear new F.ranges
      clear x m p here there = passed.1.1.1.0 (p, here, record { range = x; listed = m; has = there })

  pub range_removed_formed : Passed (remove_range_checks F base count attributes lines) → WellFormed (range_removed F base)
  range_removed_formed passed =
      ranges_formed F w (without_range base F.ranges) (omega (arith, without_fewer at base F.ranges, w.ranges_most))
      (apart_without 0 base F.ranges w.apart) (λ r m. w.ranges r (without_in at base r F.ranges m))
      (λ s g e p a m. record {
        range = m.range;
        listed = in_without at base m.range F.ranges m.listed (stays s g e p a m);
        has = m.has;
      })
    where
      at : Range → ℕ
      at r = r.base

      -- a range at a port of which a card answers isn't the one removed
      stays : (s : Seat) (g : HeldPorts) → Held F s g → (p : ℕ) → Answers g.ports p → (m : Managed F p) → m.range.base ≢ base
      stays s g e p a m q =
          passed.1.1.1.0
          (λ r just. passed.1.1.1.1.0 (
            r,
            just,
            record {
              seat = s;
              range = g;
              held = e;
              port = p;
              has =
                  subst (λ (x : Range). Has x p)
                  (range_unique 0 F.ranges m.range r w.apart m.listed just.0 (q ∙ sym just.1))
                  m.has;
              answers = a;
            },
          ))

module _ (F : Facts) (h : ℕ) (p : List ℕ) (o : Outcome) (w : WellFormed F) where
  adjust_irq_stays : AdjustIrq F h p o → WellFormed o.facts
  adjust_irq_stays =
      let l = level_given p in
      let attributes = level_attributes p in
      ⊎_elim (λ r. leaves_stays w (add_level_checks F l attributes) (level_added_formed F w l attributes) r.1)
      (⊎_elim (λ r. leaves_stays w (remove_level_checks F l attributes) (level_removed_formed F w l attributes) r.1)
      (λ r. ruled_stays w (show_level_checks F (action_of p) l) (λ _ d. subst⁻¹ WellFormed d.leaves.facts w) r.1))

  adjust_io_stays : (v : Width) → AdjustIo v F h p o → WellFormed o.facts
  adjust_io_stays v =
      let base = base_given v p in
      let count = count_given v p in
      let attributes = attributes_given v p in
      let lines = lines_given v p in
      ⊎_elim (λ r. leaves_stays w (add_range_checks F base count attributes lines) (range_added_formed F w base count attributes lines) r.1)
      (⊎_elim (λ r. leaves_stays w (remove_range_checks F base count attributes lines) (range_removed_formed F w base count attributes lines) r.1)
      (λ r. ruled_stays w (show_range_checks v F (action_of p) base) (λ _ d. subst⁻¹ WellFormed d.leaves.facts w) r.1))

  pub adjust_stays : AdjustResourceInfo F h p o → WellFormed o.facts
  adjust_stays (inl r) = subst WellFormed (sym r.1.facts) w
  adjust_stays (inr (passed, inl r)) = adjust_irq_stays r.1
  adjust_stays (inr (passed, inr r)) = adjust_io_stays r.1 r.3

-- the boot list
pub record_added_formed : (F : Facts) (r : Record) → WellFormed F → Passed (record_checks F r) → WellFormed (record_added F r)
record_added_formed F r w passed =
    by_resource (λ cs G. Passed cs → WellFormed G) F r (range_added_formed F w r.base r.count r.attributes most_lines)
    (level_added_formed F w r.base r.attributes) passed.1.1

module _ (e : Code) where
  pub boot_stays : (F : Facts) (rs : List Record) (i : ℕ) (o : Booted) → WellFormed F → Boot e F rs i o → WellFormed o.facts
  boot_stays F [] i o w ended = w
  boot_stays F (r ∷ rs) i o w (refused g) = w
  boot_stays F (r ∷ rs) i o w (added p b) = boot_stays _ _ _ o (record_added_formed F r w p) b
