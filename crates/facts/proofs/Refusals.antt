-- The refusal law: a permitted outcome whose code isn't Success answers 0 and keeps the packet and the facts; and no check gives Success. Assumes
-- nothing.
use Rattle.facts.proofs.Words.{◌≡◌, refl, sym, ◌∙◌, ◌⊎◌, ◌≢◌, inl, inr, List, [], ◌∷◌, Bool, true, false, cond, ℕ, zero, suc, ◌+◌, ◌≤◌, arith}
use Rattle.facts.proofs.Words.{length, take, T, eqb}
use Rattle.facts.specs.{Code, Success, number_of, Width, Record, Facts, Check, Outcome, FirstGiven, Passed, RuledThen, Ruled, Rule, RefusalKeeps}
use Rattle.facts.specs.{register_checks, deregister_checks, CardTo, CardOutcome, request_mask_checks, release_mask_checks, ByAction, AdjustIrq}
use Rattle.facts.specs.{AdjustIo, AddLevel, RemoveLevel, ShowLevel, AddRange, RemoveRange, ShowRange, action_of, level_given, level_attributes}
use Rattle.facts.specs.{base_given, count_given, attributes_given, lines_given, adjust_checks, add_level_checks, remove_level_checks, show_level_checks}
use Rattle.facts.specs.{add_range_checks, remove_range_checks, show_range_checks, Sharers, Count, irq_request_checks, irq_release_checks, io_request_checks}
use Rattle.facts.specs.{io_release_checks, Booted, ended, refused, added, record_checks, records_added, record_added, Service, register_client}
use Rattle.facts.specs.{deregister_client, adjust_resource_info, request_irq, release_irq, request_io, release_io, request_socket_mask}
use Rattle.facts.specs.{release_socket_mask, rule_of, Call}
use Rattle.facts.specs.Boot.{Boot}
use Rattle.facts.proofs.Boot.{by_resource}
use Rattle.facts.proofs.Sets.{cond_cases}

module _ {F : Facts} {p : List ℕ} where
  pub ruled_then_keeps : (cs : List Check) {rest : Outcome → Type 0} → RefusalKeeps F p rest → RefusalKeeps F p (RuledThen cs rest F p)
  ruled_then_keeps cs keeps o (inl r) ne = r.1
  ruled_then_keeps cs keeps o (inr r) ne = keeps o r.1 ne

  pub ruled_keeps : (cs : List Check) (D : Outcome → Type 0) → RefusalKeeps F p (Ruled cs D F p)
  ruled_keeps cs D = ruled_then_keeps cs (λ o d ne. absurd (ne d.0))

  either_keeps : {R S : Outcome → Type 0} → RefusalKeeps F p R → RefusalKeeps F p S → RefusalKeeps F p (λ (o : Outcome). R o ⊎ S o)
  either_keeps k l o (inl r) = k o r
  either_keeps k l o (inr r) = l o r

  under_keeps : {A : Type 0} {R : Outcome → Type 0} → RefusalKeeps F p R → RefusalKeeps F p (λ (o : Outcome). A × R o)
  under_keeps k o r = k o r.1

module _ (F : Facts) (h : ℕ) (p : List ℕ) where
  by_action_keeps : (A R S : Rule) → RefusalKeeps F p (A F h p) → RefusalKeeps F p (R F h p) → RefusalKeeps F p (S F h p)
      → RefusalKeeps F p (ByAction A R S F h p)
  by_action_keeps A R S k l m = either_keeps (under_keeps k) (either_keeps (under_keeps l) (under_keeps m))

  adjust_irq_keeps : RefusalKeeps F p (AdjustIrq F h p)
  adjust_irq_keeps =
      by_action_keeps AddLevel RemoveLevel ShowLevel (ruled_keeps (add_level_checks F (level_given p) (level_attributes p)) _)
      (ruled_keeps (remove_level_checks F (level_given p) (level_attributes p)) _) (ruled_keeps (show_level_checks F (action_of p) (level_given p)) _)

  adjust_io_keeps : (w : Width) → RefusalKeeps F p (AdjustIo w F h p)
  adjust_io_keeps w =
      by_action_keeps (AddRange w) (RemoveRange w) (ShowRange w)
      (ruled_keeps (add_range_checks F (base_given w p) (count_given w p) (attributes_given w p) (lines_given w p)) _)
      (ruled_keeps (remove_range_checks F (base_given w p) (count_given w p) (attributes_given w p) (lines_given w p)) _)
      (ruled_keeps (show_range_checks w F (action_of p) (base_given w p)) _)

  pub refusal_keeps : (s : Service) → RefusalKeeps F p (rule_of s F h p)
  refusal_keeps register_client = ruled_keeps (register_checks F p) _
  refusal_keeps deregister_client = ruled_keeps (deregister_checks F h p) _
  refusal_keeps adjust_resource_info =
      ruled_then_keeps (adjust_checks p) (either_keeps (under_keeps adjust_irq_keeps) (λ o r. adjust_io_keeps r.1 o r.3))
  refusal_keeps request_irq = ruled_keeps (irq_request_checks F h p) _
  refusal_keeps release_irq = ruled_keeps (irq_release_checks F h p) _
  refusal_keeps request_io = ruled_keeps (io_request_checks F h p) _
  refusal_keeps release_io = ruled_keeps (io_release_checks F h p) _
  refusal_keeps request_socket_mask = ruled_keeps (request_mask_checks F h p) _
  refusal_keeps release_socket_mask = ruled_keeps (release_mask_checks F h p) _

  pub call_refusal_keeps : (number : ℕ) → RefusalKeeps F p (Call number F h p)
  call_refusal_keeps number = either_keeps (λ o r. refusal_keeps r.0.service o r.1) (λ o r ne. r.2)

pub card_refusal_keeps : (present : Bool) (F : Facts) (s : ℕ) (o : CardOutcome) → CardTo present F s o → o.code ≢ Success → o.facts ≡ F
card_refusal_keeps present F s o (inl r) ne = r.1
card_refusal_keeps present F s o (inr r) ne = absurd (ne r.1.0)

pub sharers_refusal_zero : (F : Facts) (l : ℕ) (o : Count) → Sharers F l o → o.code ≢ Success → o.count ≡ 0
sharers_refusal_zero F l o (inl r) ne = r.1
sharers_refusal_zero F l o (inr r) ne = absurd (ne r.1.0)

-- no check gives SUCCESS
abbrev pub NoSuccess : List Check → Type 0
NoSuccess [] = Unit {0}
NoSuccess (c ∷ cs) = (c.code ≢ Success) × NoSuccess cs

-- a computed test of it
abbrev pub no_success : List Check → Bool
no_success [] = true
no_success (c ∷ cs) = cond (eqb (number_of c.code) 0) false (no_success cs)

pub none_succeeds : (cs : List Check) → T (no_success cs) → NoSuccess cs
none_succeeds [] t = tt
none_succeeds (c ∷ cs) t = (
  (λ e. rw e at t),
  none_succeeds cs (cond_cases (λ b. T b → T (no_success cs)) (eqb (number_of c.code) 0) false (no_success cs) (λ e z. absurd z) (λ e z. z) t),
)

pub first_not_success : (cs : List Check) (k : Code) → NoSuccess cs → FirstGiven cs k → k ≢ Success
first_not_success [] k n r e = r
first_not_success (c ∷ cs) k n (inl r) e = n.0 (sym r.1 ∙ e)
first_not_success (c ∷ cs) k n (inr r) e = first_not_success cs k n.1 r.1 e

-- so it is done exactly where its checks pass
module _ (cs : List Check) (n : NoSuccess cs) {F : Facts} {p : List ℕ} (D : Outcome → Type 0) (o : Outcome) where
  pub ruled_then_success : RuledThen cs D F p o → o.code ≡ Success → Passed cs × D o
  ruled_then_success (inl r) e = absurd (first_not_success cs o.code n r.0 e)
  ruled_then_success (inr r) e = r

pub record_no_success : (F : Facts) (r : Record) → NoSuccess (record_checks F r)
record_no_success F r = none_succeeds (record_checks F r) (by_resource (λ cs G. T (no_success cs)) F r tt tt)

-- the boot list, whose first record stands in the place i
module _ (e : Code) where
  pub boot_place : (F : Facts) (rs : List Record) (i : ℕ) (o : Booted) → Boot e F rs i o → i ≤ o.place
  boot_place F [] i o ended = omega arith
  boot_place F (r ∷ rs) i o (refused g) = omega arith
  boot_place F (r ∷ rs) i o (added p b) = omega (arith, boot_place _ _ _ o b)

  pub boot_within : (F : Facts) (rs : List Record) (i : ℕ) (o : Booted) → Boot e F rs i o → o.place ≤ i + length rs
  boot_within F [] i o ended = omega arith
  boot_within F (r ∷ rs) i o (refused g) = omega arith
  boot_within F (r ∷ rs) i o (added p b) = omega (arith, boot_within _ _ _ o b)

  -- "earlier ones stay", and nothing else
  pub boot_leaves : (F : Facts) (rs : List Record) (i : ℕ) (o : Booted) (n : ℕ) → Boot e F rs i o → o.place ≡ i + n
      → o.facts ≡ records_added F (take n rs)
  boot_leaves F [] i o zero ended is = refl
  boot_leaves F [] i o (suc n) ended is = refl
  boot_leaves F (r ∷ rs) i o zero (refused g) is = refl
  boot_leaves F (r ∷ rs) i o (suc n) (refused g) is = absurd (omega arith)
  boot_leaves F (r ∷ rs) i o zero (added p b) is = absurd (omega (arith, boot_place _ _ _ o b))
  boot_leaves F (r ∷ rs) i o (suc n) (added p b) is = boot_leaves (record_added F r) rs _ o n b (omega arith)

  -- "Success answers the list's length in records"
  pub boot_success : (F : Facts) (rs : List Record) (i : ℕ) (o : Booted) → Boot e F rs i o → o.code ≡ Success
      → (e ≡ Success) × (o.place ≡ i + length rs)
  boot_success F [] i o ended s = (s, omega arith)
  boot_success F (r ∷ rs) i o (refused g) s = absurd (first_not_success (record_checks F r) _ (record_no_success F r) g s)
  boot_success F (r ∷ rs) i o (added p b) s = let t = boot_success _ _ _ o b s in (t.0, omega (arith, t.1))
