-- An I/O or IRQ request whose earlier checks pass is refused exactly when no resource fits. Assumes nothing.
use Rattle.facts.proofs.Words.{◌≡◌, ap, sym, ◌∙◌, ◌⊎◌, inl, inr, ⊎_elim, ◌≢◌, ◌↔◌, List, [], ◌∷◌, ◌++◌, ℕ, arith}
use Rattle.facts.specs.{Code, Success, BadBase, BadIrq, InUse, number_of, Facts, Check, ◌gives◌, Outcome, Passed, Decided, RequestIrq}
use Rattle.facts.specs.{NoLevelFits, irq_ahead_checks, level_checks, RequestIo, NotAllManaged, InTheWay, NoCandidate, base_asked_lem, io_ahead_checks}
use Rattle.facts.specs.{base_checks, ExactlyWhen, io_asked, irq_asked}
use Rattle.facts.proofs.Joining.{taken_fits}

-- where the checks ahead pass, the rest decide
ahead_decided : (ahead own : List Check) (code : Code) {kept done : Type 0} → Passed ahead → Decided (ahead ++ own) code kept done
    → Decided own code kept done
ahead_decided [] own code p d = d
ahead_decided (c ∷ cs) own code p (inl (inl r, k)) = absurd (p.0 r.0)
ahead_decided (c ∷ cs) own code p (inl (inr r, k)) = ahead_decided cs own code p.1 (inl (r.1, k))
ahead_decided (c ∷ cs) own code p (inr r) = ahead_decided cs own code p.1 (inr (r.0.1, r.1))

-- a code is not another with another number
not_both : {A : Type 0} {code : Code} (k k' : Code) → number_of k ≢ number_of k' → code ≡ k → code ≡ k' → A
not_both k k' d e e' = absurd (d (ap number_of (sym e ∙ e')))

-- a check alone: it gives its code exactly if it applies
alone : {A kept done : Type 0} (code k : Code) → number_of k ≢ 0 → Decided ((A gives k) ∷ []) code kept done
    → ((code ≡ k) ↔ A) × ((code ≢ Success) ↔ A)
alone code k d (inl (inl r, _)) = ((λ e. r.0, λ a. r.1), (λ e. r.0, λ a. not_both k Success d r.1))
alone code k d (inl (inr r, _)) = absurd r.1
alone code k d (inr (passed, e)) =
    ((λ q. not_both k Success d q e.0, λ a. absurd (passed.0 a)), (λ n. absurd (n e.0), λ a. absurd (passed.0 a)))

-- RequestIO's last three, for a base that is named and for one that is chosen
abbrev BaseDecided : ℕ → Code → Type 0 → Type 0 → Type 0 → Type 0 → Type 0 → Type 0
BaseDecided base code N M C =
    Decided ((((base ≢ 0) × N) gives BadBase) ∷ (((base ≢ 0) × M) gives InUse) ∷ (((base ≡ 0) × C) gives InUse) ∷ []) code

module _ (base : ℕ) (code : Code) (N M C : Type 0) {kept done : Type 0} where
  named : base ≢ 0 → BaseDecided base code N M C kept done
      → ((code ≡ BadBase) ↔ N) × ((code ≢ Success) ↔ (N ⊎ M)) × ((code ≡ InUse) ↔ ((N → ⊥) × M))
  named ne (inl (inl r, _)) = (
    (λ e. r.0.1, λ n. r.1),
    (λ e. inl r.0.1, λ x. not_both BadBase Success (omega arith) r.1),
    (not_both BadBase InUse (omega arith) r.1, λ x. absurd (x.0 r.0.1)),
  )
  named ne (inl (inr (n, inl r), _)) = (
    (λ e. not_both BadBase InUse (omega arith) e r.1, λ x. absurd (n (ne, x))),
    (λ e. inr r.0.1, λ x. not_both InUse Success (omega arith) r.1),
    (λ e. ((λ x. n (ne, x)), r.0.1), λ x. r.1),
  )
  named ne (inl (inr (n, inr (m, inl r)), _)) = absurd (ne r.0.0)
  named ne (inl (inr (n, inr (m, inr r)), _)) = absurd r.1
  named ne (inr (passed, e)) = (
    (λ q. not_both BadBase Success (omega arith) q e.0, λ x. absurd (passed.0 (ne, x))),
    (λ q. absurd (q e.0), λ x. ⊎_elim (λ n. absurd (passed.0 (ne, n))) (λ m. absurd (passed.1.0 (ne, m))) x),
    (λ q. not_both InUse Success (omega arith) q e.0, λ x. absurd (passed.1.0 (ne, x.1))),
  )

  chosen : base ≡ 0 → BaseDecided base code N M C kept done → ((code ≡ InUse) ↔ C) × ((code ≢ Success) ↔ C)
  chosen z (inl (inl r, _)) = absurd (r.0.0 z)
  chosen z (inl (inr (n, inl r), _)) = absurd (r.0.0 z)
  chosen z (inl (inr (n, inr (m, inl r)), _)) = ((λ e. r.0.1, λ x. r.1), (λ e. r.0.1, λ x. not_both InUse Success (omega arith) r.1))
  chosen z (inl (inr (n, inr (m, inr r)), _)) = absurd r.1
  chosen z (inr (passed, e)) = (
    (λ q. not_both InUse Success (omega arith) q e.0, λ x. absurd (passed.1.1.0 (z, x))),
    (λ q. absurd (q e.0), λ x. absurd (passed.1.1.0 (z, x))),
  )

module _ (F : Facts) (h : ℕ) (p : List ℕ) (o : Outcome) where
  irq_decides : Passed (irq_ahead_checks F h p []) → RequestIrq F h p o
      → ((o.code ≡ BadIrq) ↔ NoLevelFits F (irq_asked p)) × ((o.code ≢ Success) ↔ NoLevelFits F (irq_asked p))
  irq_decides ahead r = alone o.code BadIrq (omega arith) (ahead_decided (irq_ahead_checks F h p []) (level_checks F (irq_asked p)) o.code ahead r)

  io_named : Passed (io_ahead_checks F h p []) → base_asked_lem p ≢ 0 → RequestIo F h p o
      → ((o.code ≡ BadBase) ↔ NotAllManaged F (io_asked p)) × ((o.code ≢ Success) ↔ (NotAllManaged F (io_asked p) ⊎ InTheWay F (io_asked p)))
      × ((o.code ≡ InUse) ↔ ((NotAllManaged F (io_asked p) → ⊥) × InTheWay F (io_asked p)))
  io_named ahead ne r =
      named (base_asked_lem p) o.code (NotAllManaged F (io_asked p)) (InTheWay F (io_asked p)) (NoCandidate F (io_asked p)) ne
      (ahead_decided (io_ahead_checks F h p []) (base_checks F (io_asked p)) o.code ahead r)

  io_chosen : Passed (io_ahead_checks F h p []) → base_asked_lem p ≡ 0 → RequestIo F h p o
      → ((o.code ≡ InUse) ↔ NoCandidate F (io_asked p)) × ((o.code ≢ Success) ↔ NoCandidate F (io_asked p))
  io_chosen ahead z r =
      chosen (base_asked_lem p) o.code (NotAllManaged F (io_asked p)) (InTheWay F (io_asked p)) (NoCandidate F (io_asked p)) z
      (ahead_decided (io_ahead_checks F h p []) (base_checks F (io_asked p)) o.code ahead r)

pub exactly_when : ExactlyWhen
exactly_when =
    record {
      irq = λ F h p o ahead r. (irq_decides F h p o ahead r).0;
      irq_refused = λ F h p o ahead r. (irq_decides F h p o ahead r).1;
      irq_taken = λ F p l w. taken_fits F w (irq_asked p) l;
      io_base = λ F h p o ahead ne r. (io_named F h p o ahead ne r).0;
      io_named = λ F h p o ahead ne r. (io_named F h p o ahead ne r).1;
      io_in_use = λ F h p o ahead ne r. (io_named F h p o ahead ne r).2;
      io_chosen = λ F h p o ahead z r. (io_chosen F h p o ahead z r).0;
      io_chosen_refused = λ F h p o ahead z r. (io_chosen F h p o ahead z r).1;
    }
