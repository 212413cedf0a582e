-- Each way in which RequestIRQ and ReleaseIRQ end is the rule's. Assumes nothing.
use Rattle.std.specs.Prelude as std
use Rattle.std.specs.Prelude.{Some, None, Result, Ok, Err, is_some}
use Rattle.facts.proofs.Words.{◌≡◌, refl, ap, sym, ◌∙◌, inl, inr, ◌≢◌, List, [], ◌∷◌, none, some, none-ne-some, some-injective, true, false, true≢false, ℕ, ◌<◌}
use Rattle.layout.proofs.Of
use Rattle.facts.specs.{Code, Success, BadAttribute, BadIrq, BadArgs, InUse, Manner, Facts, IrqGrant, type_of, Check, ◌gives◌, Leaves}
use Rattle.facts.specs.{socket_of, seat_of, irq_asked, RequestIrq, ReleaseIrq, request_irq_length, release_irq_length, type_asked_lem, assigned_irq, manner_asked_lem}
use Rattle.facts.specs.{assigning, with_irq, irq_grant, GrantsIrq, IrqHeld, IrqAttributesBad, IrqInfoBad, LevelTaken, NoLevelFits, own_irq_checks, level_checks}
use Rattle.facts.proofs.{taken_fits}
use Rattle.layout.specs.{manner_byte_lem, facts_in, Accepted, ServedBy, irq_entered}
use Rattle.layout.proofs.{left}
use Rattle.layout.proofs.Irqs.{granted_image, released_image}
use Rattle.service_checks.specs.{BegunAt}
use Rattle.service_checks.specs.declared.CardNeed.{CardNeed}
use Rattle.service_checks.specs.declared.CardNeed.TheVariants.{Needed, Ignored}
use Rattle.service_checks.proofs.{seat_named, in_seats, Service, refused_own, done_own}
use Rattle.seats.specs.{LevelHeldIs, irq_at, grant}
use Rattle.seats.specs.declared.HeldLevel.{HeldLevel}
use Rattle.seats.proofs.{irq_held_lem}
use Rattle.grants.specs.{LevelOf}

-- a release's own checks
abbrev unheld : Facts → ℕ → List ℕ → Check
unheld F h p = ((g : IrqGrant) → IrqHeld F h (seat_of (socket_of p)) (assigned_irq p) g → ⊥) gives BadIrq

abbrev differs : Facts → ℕ → List ℕ → Check
differs F h p = ((g : IrqGrant) × IrqHeld F h (seat_of (socket_of p)) (assigned_irq p) g × (type_of g.manner ≢ type_asked_lem p)) gives BadAttribute

-- the two services
abbrev pub requesting : Service
requesting = record { need = Needed; bytes = request_irq_length; own = λ F h p. own_irq_checks F p (level_checks F (irq_asked p)); done = GrantsIrq }

abbrev pub releasing : Service
releasing =
    record {
      need = Ignored;
      bytes = release_irq_length;
      own = λ F h p. unheld F h p ∷ differs F h p ∷ [];
      done = λ F h p. Leaves h p (with_irq F (seat_of (socket_of p)) none);
    }

-- the service has begun: what is read of its seat is so of the packet's socket
module _ {b p : List ℕ} {n h i s : ℕ} {need : CardNeed} (a : Accepted b) (begun : BegunAt b p n h need i s) where
  read : (r : std.Option HeldLevel) → LevelHeldIs b s r → a.facts.irq (seat_of (socket_of p)) ≡ irq_at r
  read r is = rw (← seat_named a begun) (irq_held_lem b s (in_seats a begun) a r is)

  granted : (l : ℕ) (r : Result Manner Code) → LevelOf (facts_in b) h s l r → LevelOf a.facts h (seat_of (socket_of p)) l r
  granted l r x = rw (Of.facts_in_lem b a, ← seat_named a begun) x

-- what is held at a seat, by whether something is
used : (o : std.Option HeldLevel) → is_some o ≡ true → irq_at o ≢ none
used (Some x) e n = none-ne-some (grant x) (sym n)
used None e n = true≢false (sym e)

empty : (o : std.Option HeldLevel) → is_some o ≡ false → irq_at o ≡ none
empty (Some x) e = absurd (true≢false e)
empty None e = refl

module _ {b p : List ℕ} {h i s : ℕ} (a : Accepted b) (begun : BegunAt b p request_irq_length h Needed i s) where
  abbrev Requested : List ℕ → List ℕ → Code → ℕ → Type 0
  Requested b' p' k handle = ServedBy (λ (F : Facts). RequestIrq F h p) b b' p' k handle

  pub request_attributes : IrqAttributesBad p → Requested b p BadAttribute 0
  request_attributes x = refused_own requesting a begun BadAttribute (inl (x, refl))

  module _ (attributes : IrqAttributesBad p → ⊥) where
    pub request_info : IrqInfoBad p → Requested b p BadArgs 0
    request_info x = refused_own requesting a begun BadArgs (inr (attributes, inl (x, refl)))

    module _ (info : IrqInfoBad p → ⊥) where
      module _ (o : std.Option HeldLevel) (is : LevelHeldIs b s o) where
        pub request_held : is_some o ≡ true → Requested b p InUse 0
        request_held e = refused_own requesting a begun InUse (inr (attributes, inr (info, inl ((λ n. used o e (sym (read a begun o is) ∙ n)), refl))))

      module _ (o : std.Option HeldLevel) (is : LevelHeldIs b s o) (free : is_some o ≡ false) where
        unused : a.facts.irq (seat_of (socket_of p)) ≢ none → ⊥
        unused d = d (read a begun o is ∙ empty o free)

        pub request_none : NoLevelFits a.facts (irq_asked p) → Requested b p BadIrq 0
        request_none x = refused_own requesting a begun BadIrq (inr (attributes, inr (info, inr (unused, inl (x, refl)))))

        -- a level is taken: its grant is entered, and the packet says it
        pub request_done : (l : ℕ) → LevelTaken a.facts (irq_asked p) l → h < 65536
            → Requested (irq_entered b s h l (manner_byte_lem (manner_asked_lem p))) (assigning p l) Success h
        request_done l taken low =
            let grant = irq_grant h (irq_asked p) l in
            let after = with_irq a.facts (seat_of (socket_of p)) (some grant) in
            done_own requesting a begun (irq_entered b s h l (manner_byte_lem (manner_asked_lem p))) (assigning p l) after
            (attributes, (info, (unused, ((λ x. x l (taken_fits a.facts a.formed (irq_asked p) l taken)), tt))))
            (record { level = l; taken = taken; leaves = left h (assigning p l) after })
            (rw (← seat_named a begun) (granted_image b a s (in_seats a begun) grant low))

module _ {b p : List ℕ} {h i s : ℕ} (a : Accepted b) (begun : BegunAt b p release_irq_length h Ignored i s) where
  abbrev Released : List ℕ → Code → ℕ → Type 0
  Released b' k handle = ServedBy (λ (F : Facts). ReleaseIrq F h p) b b' p k handle

  -- the level that the packet names, as it was read
  module _ {l : ℕ} (named : l ≡ assigned_irq p) where
    pub release_unheld : {k : Code} → LevelOf (facts_in b) h s l (Err k) → Released b BadIrq 0
    release_unheld {k} d = refused_own releasing a begun BadIrq (inl ((granted a begun _ (Err k) (rw named at d)).1, refl))

    -- the client holds it, in this manner
    module _ (m : Manner) (x : LevelOf (facts_in b) h s l (Ok m)) where
      holds : LevelOf a.facts h (seat_of (socket_of p)) (assigned_irq p) (Ok m)
      holds = granted a begun _ (Ok m) (rw named at x)

      pub release_differs : type_of m ≢ type_asked_lem p → Released b BadAttribute 0
      release_differs d = refused_own releasing a begun BadAttribute (inr ((λ n. n _ holds), inl ((_, holds, d), refl)))

      alike : type_of m ≡ type_asked_lem p → (differs a.facts h p).when → ⊥
      alike same y = y.2 (ap (λ (g : IrqGrant). type_of g.manner) (some-injective y.0 _ (sym y.1.live ∙ holds.live)) ∙ same)

      pub release_done : type_of m ≡ type_asked_lem p → Released (irq_entered b s 0 0 0) Success h
      release_done same =
          let after = with_irq a.facts (seat_of (socket_of p)) none in
          done_own releasing a begun (irq_entered b s 0 0 0) p after ((λ n. n _ holds), (alike same, tt)) (left h p after)
          (rw (← seat_named a begun) (released_image b a s (in_seats a begun)))
