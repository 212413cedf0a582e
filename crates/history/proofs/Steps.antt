-- How each event turns the facts. Assumes nothing.
use Rattle.facts.proofs.Words.{◌≡◌, refl, ap, sym, ◌∙◌, subst, ◌⊎◌, inl, inr, ⊎_elim, ◌≢◌, List, Bool, cond, true, false, false≢true, ℕ, arith}
use Rattle.facts.proofs.Words.{length, T, eqb, eq-eqb, ne_eqb, WellFormed}
use Rattle.facts.specs.{Code, Success, Width, number_of, Facts, Check, Outcome, FirstGiven, Passed, Kept, register_checks, deregister_checks, CardTo}
use Rattle.facts.specs.{card_checks, with_card, request_mask_checks, release_mask_checks, AdjustIrq, AdjustIo, AdjustResourceInfo, adjust_checks, action_of}
use Rattle.facts.specs.{resource_of, add, remove, first, next, irq_level, io_range, level_given, level_attributes, io_adjust_length, base_given, count_given}
use Rattle.facts.specs.{attributes_given, lines_given, reserves, add_level_checks, remove_level_checks, show_level_checks, add_range_checks, remove_range_checks}
use Rattle.facts.specs.{show_range_checks, irq_request_checks, irq_release_checks, io_request_checks, io_release_checks, Service, register_client}
use Rattle.facts.specs.{deregister_client, adjust_resource_info, request_irq, release_irq, request_io, release_io, request_socket_mask, release_socket_mask}
use Rattle.facts.specs.{service_number, rule_of, Call}
use Rattle.facts.proofs.{code_injective, number_injective, width_one, no_success, none_succeeds, first_not_success, put_same}
use Rattle.history.specs.{Event, make_fresh, call, card_in, card_out, boot, sharers, Fact, level, range, Made, GivenBack, Makes, GivesBack}
use Rattle.history.specs.{registration, level_made, range_made, level_back, range_back, Tells}
use Rattle.history.proofs.Answered.{Rules}
use Rattle.history.proofs.Turns.{Turns, unturned, turns_as}
use Rattle.history.proofs.Inverse.{adjusted_only, adjusted_back_only}
use Rattle.history.proofs.Grants.{card_turns, request_io_turns, release_io_turns, request_irq_turns, release_irq_turns}
use Rattle.history.proofs.Clients.{register_turns, deregister_turns, request_mask_turns, release_mask_turns}
use Rattle.history.proofs.Resources.{level_added_turns, level_removed_turns, range_added_turns, range_removed_turns, bytes_turns}

-- how many handles a service issues that answers SUCCESS
abbrev issued_by : Service → ℕ
issued_by v = cond (eqb (service_number v) (service_number register_client)) 1 0

module _ (F : Facts) (h : ℕ) (p : List ℕ) (o : Outcome) (w : WellFormed F) where
  abbrev TurnsBy : Service → Facts → Type 0
  TurnsBy v = Turns (GivenBack h p v) (Made h p o.handle o.packet v) (issued_by v) F

  -- it is refused and changes nothing, or is done
  abbrev Ends : Service → Type 0
  Ends v = ((o.code ≢ Success) × (o.facts ≡ F)) ⊎ ((o.code ≡ Success) × TurnsBy v o.facts)

  ends : (v : Service) (cs : List Check) → T (no_success cs) → {D : Type 0} → (Passed cs → D → TurnsBy v o.facts)
      → (FirstGiven cs o.code × Kept F p o) ⊎ (Passed cs × ((o.code ≡ Success) × D)) → Ends v
  ends v cs t turn (inl r) = inl (first_not_success cs o.code (none_succeeds cs t) r.0, r.1.facts)
  ends v cs t turn (inr r) = inr (r.1.0, turn r.0 r.1.1)

  -- AdjustResourceInfo that gives nothing back, and one that makes nothing
  keeps : action_of p ≢ remove → (f : Fact) → GivenBack h p adjust_resource_info f → ⊥
  keeps d = adjusted_back_only (λ (f : Fact). ⊥) (λ v e i. d i) (λ v x n e i. d i)

  makes_none : action_of p ≢ add → (f : Fact) → Made h p o.handle o.packet adjust_resource_info f → ⊥
  makes_none d = adjusted_only (λ (f : Fact). ⊥) (λ e i. d i) (λ x n e i. d i)

  shown : (action_of p ≡ first) ⊎ (action_of p ≡ next) → o.facts ≡ F → TurnsBy adjust_resource_info o.facts
  shown act e =
      subst (TurnsBy adjust_resource_info) (sym e)
      (unturned F (keeps (λ i. ⊎_elim (λ j. omega (arith, i, j)) (λ j. omega (arith, i, j)) act))
      (makes_none (λ i. ⊎_elim (λ j. omega (arith, i, j)) (λ j. omega (arith, i, j)) act)))

  levels_end : resource_of p ≡ irq_level → AdjustIrq F h p o → Ends adjust_resource_info
  levels_end irq (inl (act, r)) =
      ends adjust_resource_info (add_level_checks F (level_given p) (level_attributes p)) tt
      (λ passed d. subst (TurnsBy adjust_resource_info) (sym d.facts)
      (level_added_turns F _ _ (keeps (λ i. omega (arith, i, act))) (level_given p) (level_attributes p) passed (level_made irq act)
      (adjusted_only (λ (f : Fact). f ≡ level (level_given p) (reserves (level_attributes p))) (λ e i. refl) (λ x n e i. absurd (omega (arith, e, irq))))))
      r
  levels_end irq (inr (inl (act, r))) =
      ends adjust_resource_info (remove_level_checks F (level_given p) (level_attributes p)) tt
      (λ passed d. subst (TurnsBy adjust_resource_info) (sym d.facts)
      (level_removed_turns F _ _ (makes_none (λ i. omega (arith, i, act))) (level_given p) (λ v. level_back irq act)
      (adjusted_back_only (λ (f : Fact). (v : Bool) × (f ≡ level (level_given p) v)) (λ v e i. (v, refl)) (λ v x n e i. absurd (omega (arith, e, irq))))))
      r
  levels_end irq (inr (inr (act, r))) =
      ends adjust_resource_info (show_level_checks F (action_of p) (level_given p)) tt (λ passed d. shown act d.leaves.facts) r

  module _ (x : Width) (size : length p ≡ io_adjust_length x) (io : resource_of p ≡ io_range) where
    abbrev given : Width → Bool → Fact
    given y v = range (record { base = base_given y p; count = count_given y p; reserved = v })

    ranges_end : AdjustIo x F h p o → Ends adjust_resource_info
    ranges_end (inl (act, r)) =
        ends adjust_resource_info (add_range_checks F (base_given x p) (count_given x p) (attributes_given x p) (lines_given x p)) tt
        (λ passed d. subst (TurnsBy adjust_resource_info) (sym d.facts)
        (range_added_turns F _ _ (keeps (λ i. omega (arith, i, act))) (base_given x p) (count_given x p) (attributes_given x p)
        (range_made x size io act)
        (adjusted_only (λ (f : Fact). f ≡ given x (reserves (attributes_given x p))) (λ e i. absurd (omega (arith, e, io)))
        (λ y n e i. ap (λ (z : Width). given z (reserves (attributes_given z p))) (width_one y x (sym n ∙ size))))))
        r
    ranges_end (inr (inl (act, r))) =
        ends adjust_resource_info (remove_range_checks F (base_given x p) (count_given x p) (attributes_given x p) (lines_given x p)) tt
        (λ passed d. subst (TurnsBy adjust_resource_info) (sym d.facts)
        (range_removed_turns F _ _ (makes_none (λ i. omega (arith, i, act))) (base_given x p) (count_given x p) (attributes_given x p) (lines_given x p) w
        passed (λ v. range_back x size io act)
        (adjusted_back_only (λ (f : Fact). (v : Bool) × (f ≡ given x v)) (λ v e i. absurd (omega (arith, e, io)))
        (λ v y n e i. (v, ap (λ (z : Width). given z v) (width_one y x (sym n ∙ size)))))))
        r
    ranges_end (inr (inr (act, r))) =
        ends adjust_resource_info (show_range_checks x F (action_of p) (base_given x p)) tt (λ passed d. shown act d.leaves.facts) r

  adjust_ends : AdjustResourceInfo F h p o → Ends adjust_resource_info
  adjust_ends (inl r) = inl (first_not_success (adjust_checks p) o.code (none_succeeds (adjust_checks p) tt) r.0, r.1.facts)
  adjust_ends (inr (passed, inl r)) = levels_end r.0 r.1
  adjust_ends (inr (passed, inr r)) = ranges_end r.1 r.2 r.0 r.3

  pub service_ends : (v : Service) → rule_of v F h p o → Ends v
  service_ends register_client =
      ends register_client (register_checks F p) tt
      (λ passed d. subst (TurnsBy register_client) (sym d.facts) (register_turns F h p o.handle o.packet d.handle))
  service_ends deregister_client =
      ends deregister_client (deregister_checks F h p) tt
      (λ passed d. subst (TurnsBy deregister_client) (sym d.facts) (deregister_turns F h p o.handle o.packet w passed))
  service_ends adjust_resource_info = adjust_ends
  service_ends request_irq = ends request_irq (irq_request_checks F h p) tt (request_irq_turns F h p o)
  service_ends release_irq =
      ends release_irq (irq_release_checks F h p) tt (λ passed d. subst (TurnsBy release_irq) (sym d.facts) (release_irq_turns F h p o passed))
  service_ends request_io = ends request_io (io_request_checks F h p) tt (request_io_turns F h p o)
  service_ends release_io =
      ends release_io (io_release_checks F h p) tt (λ passed d. subst (TurnsBy release_io) (sym d.facts) (release_io_turns F h p o passed))
  service_ends request_socket_mask =
      ends request_socket_mask (request_mask_checks F h p) tt
      (λ passed d. subst (TurnsBy request_socket_mask) (sym d.facts) (request_mask_turns F h p o.handle o.packet passed))
  service_ends release_socket_mask =
      ends release_socket_mask (release_mask_checks F h p) tt
      (λ passed d. subst (TurnsBy release_socket_mask) (sym d.facts) (release_mask_turns F h p o.handle o.packet))

-- how an event turns the facts
abbrev pub EventTurns : Event → Facts → Facts → Type 0
EventTurns e = Turns (GivesBack e) (Makes e) (registration e)

-- a refusal issues no handle
pub refused_issues : (n h : ℕ) (p : List ℕ) (k : Code) (a : ℕ) (q : List ℕ) → k ≢ Success → registration (call n h p k a q) ≡ 0
refused_issues n h p k a q d =
    ap (λ (t : Bool). cond (eqb n (service_number register_client)) (cond t 1 0) 0)
    (ne_eqb (number_of k) (number_of Success) (λ e. d (code_injective k Success e)))
    ∙ either (eqb n (service_number register_client))
  where
    either : (t : Bool) → ◌≡◌ {A = ℕ} (cond t 0 0) 0
    either true = refl
    either false = refl

module _ (n h : ℕ) (p : List ℕ) (k : Code) (a : ℕ) (q : List ℕ) (F : Facts) where
  refused_turns : k ≢ Success → (G : Facts) → G ≡ F → EventTurns (call n h p k a q) F G
  refused_turns d G e =
      subst (EventTurns (call n h p k a q) F) (sym e)
      (subst (λ (i : ℕ). Turns (GivesBack (call n h p k a q)) (Makes (call n h p k a q)) i F F) (sym (refused_issues n h p k a q d))
      (unturned F (λ f b. d b.0) (λ f m. d m.0)))

  done_turns : (v : Service) → service_number v ≡ n → k ≡ Success → (G : Facts) → Turns (GivenBack h p v) (Made h p a q v) (issued_by v) F G
      → EventTurns (call n h p k a q) F G
  done_turns v number success G t =
      subst (λ (i : ℕ). Turns (GivesBack (call n h p k a q)) (Makes (call n h p k a q)) i F G) issues
      (turns_as
      (λ f. ((λ b. (success, v, number, b)), (λ b. subst (λ (x : Service). GivenBack h p x f) (this b.1 b.2) b.3)))
      (λ f. ((λ m. (success, v, number, m)), (λ m. subst (λ (x : Service). Made h p a q x f) (this m.1 m.2) m.3))) t)
    where
      this : (x : Service) → service_number x ≡ n → x ≡ v
      this x e = number_injective x v (e ∙ sym number)

      issues : issued_by v ≡ registration (call n h p k a q)
      issues =
          ap (λ (i : ℕ). cond (eqb i (service_number register_client)) 1 0) number
          ∙ sym (ap (λ (t : Bool). cond (eqb n (service_number register_client)) (cond t 1 0) 0) (eq-eqb (number_of k) (number_of Success) (ap number_of success)))

  call_turns : (G : Facts) → WellFormed F → Call n F h p (record { code = k; handle = a; packet = q; facts = G }) → EventTurns (call n h p k a q) F G
  call_turns G w (inl (s, r)) =
      ⊎_elim (λ x. refused_turns x.0 G x.1) (λ x. done_turns s.service s.number_is x.0 G x.1)
      (service_ends F h p (record { code = k; handle = a; packet = q; facts = G }) w s.service r)
  call_turns G w (inr r) = refused_turns (λ e. omega (arith, ap number_of (sym r.1 ∙ e))) G r.2.facts

-- card in and card out
card_in_turns : (s : ℕ) (k : Code) (F G : Facts) → CardTo true F s (record { code = k; facts = G }) → EventTurns (card_in s k) F G
card_in_turns s k F G (inl r) =
    subst (EventTurns (card_in s k) F) (sym r.1)
    (unturned F (λ f b. b) (λ f m. first_not_success (card_checks F s) k (none_succeeds (card_checks F s) tt) r.0 m.0))
card_in_turns s k F G (inr r) =
    subst (EventTurns (card_in s k) F) (sym r.1.1)
    (card_turns F s _ _ true (λ f m. subst (Tells (with_card F s true)) (sym m.1) (put_same F.card s true)) (λ f b. absurd b) (λ e. inr refl)
    (λ e. inl (r.1.0, refl)))

card_out_turns : (s : ℕ) (k : Code) (F G : Facts) → CardTo false F s (record { code = k; facts = G }) → EventTurns (card_out s k) F G
card_out_turns s k F G (inl r) =
    subst (EventTurns (card_out s k) F) (sym r.1)
    (unturned F (λ f b. first_not_success (card_checks F s) k (none_succeeds (card_checks F s) tt) r.0 b.0) (λ f m. m))
card_out_turns s k F G (inr r) =
    subst (EventTurns (card_out s k) F) (sym r.1.1)
    (card_turns F s _ _ false (λ f m. absurd m)
    (λ f b t. false≢true (sym (put_same F.card s false) ∙ subst (Tells (with_card F s false)) b.1 t)) (λ e. inl (r.1.0, refl))
    (λ e. absurd (false≢true e)))

pub event_turns : (e : Event) (F G : Facts) → WellFormed F → Rules e F G → EventTurns e F G
event_turns (make_fresh n k) F G w r = subst (EventTurns (make_fresh n k) F) (sym r) (unturned F (λ f b. b) (λ f m. m))
event_turns (call n h p k a q) F G w r = call_turns n h p k a q F G w r
event_turns (card_in s k) F G w r = card_in_turns s k F G r
event_turns (card_out s k) F G w r = card_out_turns s k F G r
event_turns (boot b k i) F G w r = bytes_turns F b _ r
event_turns (sharers l k c) F G w r = subst (EventTurns (sharers l k c) F) (sym r.1) (unturned F (λ f b. b) (λ f m. m))
