-- RequestIRQ, ReleaseIRQ, RequestIO and ReleaseIO leave a well-formed set well formed. Assumes nothing.
use Rattle.facts.proofs.Words.{◌≡◌, sym, subst, subst⁻¹, inl, inr, ⊎_elim, List, none, some, some-injective, none-ne-some, ℕ}
use Rattle.facts.proofs.Words.{◌^◌, ◌≤◌, dec_le, arith, WellFormed}
use Rattle.facts.specs.{Fits, irq_release_checks, io_release_checks, Facts, IoGrant, IrqGrant, Bytes, Meet, AllManaged, AnswersManaged, IoFits}
use Rattle.facts.specs.{IrqFits, IoCompany, IrqCompany, Holds, Outcome, Passed, socket_of, request_checks, RequestIrq, ReleaseIrq, GrantsIrq}
use Rattle.facts.specs.{own_irq_checks, level_checks, irq_grant, manner_asked_lem, request_irq_length, RequestIo, ReleaseIo, GrantsIo, BaseTaken}
use Rattle.facts.specs.{own_io_checks, base_checks, io_grant, ports_at, request_io_length, count_asked_lem, lines_asked_lem, most_lines, io_asked, irq_asked, Seat}
use Rattle.facts.specs.{HeldPorts, Held}
use Rattle.facts.proofs.Company.{together_symmetric}
use Rattle.facts.proofs.Joining.{taken_fits}
use Rattle.facts.proofs.Told.{told, both_told, true_told, managed_told}
use Rattle.facts.proofs.Formed.{io_formed, irq_formed, leaves_stays}
use Rattle.facts.proofs.ClientsStay.{live_passed, socket_passed, request_passed}

module _ (F : Facts) (h : ℕ) (p : List ℕ) (o : Outcome) (w : WellFormed F) where
  pub request_irq_stays : RequestIrq F h p o → WellFormed o.facts
  request_irq_stays (inl r) = subst WellFormed (sym r.1.facts) w
  request_irq_stays (inr r) =
      subst WellFormed (sym granted.leaves.facts)
      (irq_formed F w (socket_of p) (some new) (λ g e. subst (IrqFits F (socket_of p)) (some-injective new g e) fits)
      (λ t g g' d e e'. subst (λ (x : IrqGrant). IrqCompany x g') (some-injective new g e) (company t g' e')))
    where
      granted : GrantsIrq F h p o
      granted = r.1.1

      passed : Passed (request_checks request_irq_length F h p (own_irq_checks F p (level_checks F (irq_asked p))))
      passed = r.0

      new : IrqGrant
      new = irq_grant h (irq_asked p) granted.level

      level_fits : Fits F (irq_asked p) granted.level
      level_fits = taken_fits F w (irq_asked p) granted.level granted.taken

      fits : IrqFits F (socket_of p) new
      fits =
          record {
            client = live_passed request_irq_length F h p (own_irq_checks F p (level_checks F (irq_asked p))) passed;
            socket = socket_passed request_irq_length F h p (own_irq_checks F p (level_checks F (irq_asked p))) passed;
            managed = level_fits.managed;
          }

      -- the level has no grant, or all its grants go together with this manner
      company : (t : ℕ) (g : IrqGrant) → F.irq t ≡ some g → IrqCompany new g
      company t g e q =
          let holds : Holds F granted.level t g = record { live = e; at = sym q } in
          together_symmetric g.manner (manner_asked_lem p)
          (⊎_elim (λ free. absurd (free t g holds)) (λ all. all.1 t g holds) level_fits.free)

  pub release_irq_stays : ReleaseIrq F h p o → WellFormed o.facts
  release_irq_stays =
      leaves_stays w (irq_release_checks F h p)
      (λ _. irq_formed F w (socket_of p) none (λ g e. absurd (none-ne-some g e)) (λ t g g' d e. absurd (none-ne-some g e)))

  pub request_io_stays : Bytes p → RequestIo F h p o → WellFormed o.facts
  request_io_stays bytes (inl r) = subst WellFormed (sym r.1.facts) w
  request_io_stays bytes (inr r) =
      subst WellFormed (sym granted.leaves.facts)
      (io_formed F w (socket_of p) (some new) (λ g e. subst (IoFits F (socket_of p)) (some-injective new g e) fits)
      (λ t g g' d e e'. subst (λ (x : IoGrant). IoCompany x g') (some-injective new g e) (company granted.taken t g' e')))
    where
      granted : GrantsIo F h p o
      granted = r.1.1

      base : ℕ
      base = granted.base

      new : IoGrant
      new = io_grant h (io_asked p) base

      passed : Passed (request_checks request_io_length F h p (own_io_checks F p (base_checks F (io_asked p))))
      passed = r.0

      own : Passed (own_io_checks F p (base_checks F (io_asked p)))
      own = request_passed request_io_length F h p (own_io_checks F p (base_checks F (io_asked p))) passed

      -- the base and its ports: the one named, or a candidate
      base_good : BaseTaken F (io_asked p) base → (1 ≤ base) × AllManaged F base (count_asked_lem p) × AnswersManaged F (ports_at (io_asked p) base)
      base_good (inl named) =
          subst⁻¹ (λ (b : ℕ). (1 ≤ b) × AllManaged F b (count_asked_lem p) × AnswersManaged F (ports_at (io_asked p) b)) named.1 (
            omega (arith, named.0),
            (λ q h. told (managed_told F q) (λ d. own.1.1.1.0 (named.0, inr (inl (λ all. d (all q h)))))),
            (λ q a. told (managed_told F q) (λ d. own.1.1.1.0 (named.0, inr (inr (λ all. d (all q a)))))),
          )
      base_good (inr chosen) = let c = chosen.1.fits in (c.positive, c.managed, c.answers)

      fits : IoFits F (socket_of p) new
      fits =
          record {
            client = live_passed request_io_length F h p (own_io_checks F p (base_checks F (io_asked p))) passed;
            socket = socket_passed request_io_length F h p (own_io_checks F p (base_checks F (io_asked p))) passed;
            base = (base_good granted.taken).0;
            line = told (dec_le 1 (lines_asked_lem p)) (λ d. own.0 (inr (inr (inl (omega arith)))));
            lines = told (dec_le (lines_asked_lem p) most_lines) (λ d. own.0 (inr (inr (inr (omega arith)))));
            port = told (dec_le 1 (count_asked_lem p)) (λ d. own.1.0 (inl (omega arith)));
            asked = omega (arith, bytes 4);
            decoded = told (dec_le (count_asked_lem p) (2 ^ lines_asked_lem p)) (λ d. own.1.0 (inr (inl (omega arith))));
            managed = (base_good granted.taken).1;
            answers = (base_good granted.taken).2;
          }

      -- a base named meets a live grant only if both share; a candidate meets none
      company : BaseTaken F (io_asked p) base → (t : Seat) (g : HeldPorts) → Held F t g → IoCompany new g
      company (inl named) t g e m =
          told (both_told (true_told (io_asked p).shared) (true_told g.shared)) (λ d. own.1.1.1.1.0 (
            named.0,
            record {
              seat = t;
              range = g;
              held = e;
              meets = subst (λ (b : ℕ). Meet (ports_at (io_asked p) b) g.ports) named.1 m;
              unshared = inr d;
            },
          ))
      company (inr chosen) t g e m = absurd (chosen.1.fits.meets_none t g e m)

  pub release_io_stays : ReleaseIo F h p o → WellFormed o.facts
  release_io_stays =
      leaves_stays w (io_release_checks F h p)
      (λ _. io_formed F w (socket_of p) none (λ g e. absurd (none-ne-some g e)) (λ t g g' d e. absurd (none-ne-some g e)))
