-- A call of RequestIRQ or RequestIO whose earlier checks pass is refused exactly when no resource fits. Assumes nothing.
use Rattle.facts.proofs.Words.{◌≡◌, refl, ap, sym, subst, inl, inr, ⊎_elim, ◌≢◌, List, ℕ, T, WellFormed}
use Rattle.facts.specs.{Code, Success, Facts, Check, Outcome, Passed, Ruled, RequestIrq, GrantsIrq, Fits, assigned_irq, irq_request_checks, RequestIo}
use Rattle.facts.specs.{GrantsIo, Candidate, BaseTaken, base_asked_lem, io_request_checks, Service, request_irq, request_io, service_number, rule_of, Call}
use Rattle.facts.specs.{io_asked, irq_asked}
use Rattle.facts.proofs.{number_injective, no_success, none_succeeds, ruled_then_success, exactly_when}
use Rattle.layout.specs.{Accepted}
use Rattle.history.specs.{call, Ours, RefusedExactly}
use Rattle.history.proofs.Answered.{stepped}
use Rattle.history.proofs.Grants.{base_answered, level_answered}

-- what a call of a service answers on an accepted table is what its rule permits of the facts
ruled_by : (v : Service) (h : ℕ) (p : List ℕ) (k : Code) (a : ℕ) (q b b' : List ℕ) (t : Accepted b) → Ours (call (service_number v) h p k a q) b b'
    → (G : Facts) × rule_of v t.facts h p (record { code = k; handle = a; packet = q; facts = G })
ruled_by v h p k a q b b' t x = let s = stepped t (call (service_number v) h p k a q) tt x in (s.after, served _ s.rule)
  where
    served : (o : Outcome) → Call (service_number v) t.facts h p o → rule_of v t.facts h p o
    served o (inl (n, r)) = subst (λ (u : Service). rule_of u t.facts h p o) (number_injective n.service v n.number_is) r
    served o (inr r) = absurd (r.0 (record { service = v; number_is = refl }))

-- what a request that is granted passed and took
module _ (F : Facts) (h : ℕ) (p : List ℕ) (o : Outcome) (success : o.code ≡ Success) where
  granted : (cs : List Check) → T (no_success cs) → (D : Outcome → Type 0) → Ruled cs D F p o → Passed cs × D o
  granted cs t D r =
      let d = ruled_then_success cs (none_succeeds cs t) (λ (x : Outcome). (x.code ≡ Success) × D x) o r success in (d.0, d.1.1)

  irq_granted : RequestIrq F h p o → Passed (irq_request_checks F h p) × GrantsIrq F h p o
  irq_granted = granted (irq_request_checks F h p) tt (GrantsIrq F h p)

  io_granted : RequestIo F h p o → Passed (io_request_checks F h p) × GrantsIo F h p o
  io_granted = granted (io_request_checks F h p) tt (GrantsIo F h p)

  -- the level that it writes fits
  level_fits : WellFormed F → RequestIrq F h p o → Fits F (irq_asked p) (assigned_irq o.packet)
  level_fits w r =
      let d = irq_granted r in
      subst (Fits F (irq_asked p)) (sym (level_answered F h p o d.0 d.1)) (exactly_when.irq_taken F p d.1.level w d.1.taken)

  -- the base that it writes is the one taken
  base_taken : RequestIo F h p o → BaseTaken F (io_asked p) (base_asked_lem o.packet)
  base_taken r = let d = io_granted r in subst (BaseTaken F (io_asked p)) (sym (base_answered F h p o d.0 d.1)) d.1.taken

  base_candidate : base_asked_lem p ≡ 0 → RequestIo F h p o → Candidate F (io_asked p) (base_asked_lem o.packet)
  base_candidate zero r = ⊎_elim (λ named. absurd (named.0 zero)) (λ chosen. chosen.1.fits) (base_taken r)

-- a named base stays in the packet, granted or refused
base_kept : (F : Facts) (h : ℕ) (p : List ℕ) (o : Outcome) → RequestIo F h p o → base_asked_lem p ≢ 0 → base_asked_lem o.packet ≡ base_asked_lem p
base_kept F h p o (inl r) named = ap base_asked_lem r.1.packet
base_kept F h p o (inr r) named = ⊎_elim (λ taken. taken.1) (λ chosen. absurd (named chosen.0)) (base_taken F h p o r.1.0 (inr r))

pub refused_exactly : RefusedExactly Ours
refused_exactly =
    record {
      irq = λ h p k a q b b' t passed x. exactly_when.irq_refused t.facts h p _ passed (ruled_by request_irq h p k a q b b' t x).1;
      irq_code = λ h p k a q b b' t passed x. exactly_when.irq t.facts h p _ passed (ruled_by request_irq h p k a q b b' t x).1;
      irq_fits = λ h p k a q b b' t passed x e. level_fits t.facts h p _ e t.formed (ruled_by request_irq h p k a q b b' t x).1;
      io_named = λ h p k a q b b' t passed x named.
          exactly_when.io_named t.facts h p _ passed named (ruled_by request_io h p k a q b b' t x).1;
      io_base = λ h p k a q b b' t passed x named. exactly_when.io_base t.facts h p _ passed named (ruled_by request_io h p k a q b b' t x).1;
      io_in_use = λ h p k a q b b' t passed x named.
          exactly_when.io_in_use t.facts h p _ passed named (ruled_by request_io h p k a q b b' t x).1;
      io_kept = λ h p k a q b b' t passed x. base_kept t.facts h p _ (ruled_by request_io h p k a q b b' t x).1;
      io_chosen = λ h p k a q b b' t passed x zero.
          exactly_when.io_chosen_refused t.facts h p _ passed zero (ruled_by request_io h p k a q b b' t x).1;
      io_chosen_code = λ h p k a q b b' t passed x zero.
          exactly_when.io_chosen t.facts h p _ passed zero (ruled_by request_io h p k a q b b' t x).1;
      io_fits = λ h p k a q b b' t passed x zero e. base_candidate t.facts h p _ e zero (ruled_by request_io h p k a q b b' t x).1;
    }
