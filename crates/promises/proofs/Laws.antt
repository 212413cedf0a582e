-- The laws that specs/Laws states hold. Assumes nothing.
use Rattle.facts.proofs.Words.{◌≡◌, refl, ap, ap₂, sym, ◌∙◌, subst, inl, inr, ⊎_elim, ◌≢◌, List, Bool, ℕ, ◌*◌, ◌≤◌, arith, length, WellFormed}
use Rattle.facts.specs.{Code, Success, number_of, Facts, fresh, Outcome, Count, Sharers, CardOutcome, CardTo, Booted, BootBytes, stopped, record_size}
use Rattle.facts.specs.{records_in, records_of, end_of, records_added, Call, Coincide, packed, placed}
use Rattle.facts.proofs.{code_byte, service_laws, host_laws, bytes_laws}
use Rattle.layout.specs.{image, Accepted, TableRefused}
use Rattle.layout.specs.Served.{Served}
use Rattle.layout.proofs.{one_set}
use Rattle.promises.specs.{CallPermitted, CardPermitted, SharersPermitted, BootPermitted, CallAnswers, CardAnswers, SharersAnswers}
use Rattle.promises.specs.{FreshAnswers, BootAnswers, TakenApart, CallLaws, CardLaws, SharersLaws, FreshLaws, BootLaws}
use Rattle.promises.specs.Laws.{Laws}

-- a code is below 65536, so what is packed with it can be taken apart
taken_apart : (r : ℕ) (k : Code) (n : ℕ) → r ≡ packed k n → TakenApart r k n
taken_apart r k n e = (omega (arith, e, code_byte k), omega (arith, e, code_byte k))

-- a table says one set of facts
facts_one : {b : List ℕ} (a a' : Accepted b) → a.facts ≡ a'.facts
facts_one {b} a a' = one_set b a.facts a'.facts a.formed a'.formed a.is a'.is

-- two calls on one table that are served: O is what a call answers and leaves, and of what the rule permits any two coincide
module _ {O : Type 0} (facts : O → Facts) (R : Facts → O → Type 0) (one : (F : Facts) → WellFormed F → (o o' : O) → R F o → R F o' → o ≡ o')
    (b b₁ b₂ : List ℕ) (answer₁ answer₂ : Facts → O) (same₁ : (G : Facts) → facts (answer₁ G) ≡ G) (same₂ : (G : Facts) → facts (answer₂ G) ≡ G) where
  one_served : (s : Served (λ (F G : Facts). R F (answer₁ G)) b b₁) (t : Served (λ (F G : Facts). R F (answer₂ G)) b b₂)
      → (answer₁ s.after ≡ answer₂ t.after) × (b₁ ≡ b₂)
  one_served s t = (
    same,
    sym s.table ∙ ap image (sym (same₁ s.after) ∙ ap facts same ∙ same₂ t.after) ∙ t.table,
  )
    where
      same : answer₁ s.after ≡ answer₂ t.after
      same =
          one s.accepted.facts s.accepted.formed (answer₁ s.after) (answer₂ t.after) s.rule
          (subst (λ (F : Facts). R F (answer₂ t.after)) (facts_one t.accepted s.accepted) t.rule)

-- two that aren't: every byte stays
one_unformed : {b b₁ b₂ : List ℕ} {k₁ k₂ : Code} → TableRefused b b₁ k₁ → TableRefused b b₂ k₂ → (k₁ ≡ k₂) × (b₁ ≡ b₂)
one_unformed u v = (u.code_is ∙ sym v.code_is, u.table ∙ sym v.table)

-- cs_call
module _ (service handle : ℕ) (b p : List ℕ) where
  abbrev Calls : Facts → Outcome → Type 0
  Calls F = Call service F handle p

  calls_one : (F : Facts) → WellFormed F → Coincide (Calls F)
  calls_one F = service_laws.one_outcome service F handle p

  call_one : (b₁ b₂ p₁ p₂ : List ℕ) (r₁ r₂ : ℕ) → CallAnswers service handle b b₁ p p₁ r₁ → CallAnswers service handle b b₂ p p₂ r₂
      → (r₁ ≡ r₂) × (p₁ ≡ p₂) × (b₁ ≡ b₂)
  call_one b₁ b₂ p₁ p₂ r₁ r₂ x y = in_each_case x.permitted y.permitted
    where
      answer : Code → ℕ → List ℕ → Facts → Outcome
      answer k h q G = record { code = k; handle = h; packet = q; facts = G }

      in_each_case : CallPermitted service handle b b₁ p p₁ x.code x.answered → CallPermitted service handle b b₂ p p₂ y.code y.answered
          → (r₁ ≡ r₂) × (p₁ ≡ p₂) × (b₁ ≡ b₂)
      in_each_case (inl s) (inl t) =
          let e =
          one_served (λ (o : Outcome). o.facts) Calls calls_one b b₁ b₂ (answer x.code x.answered p₁) (answer y.code y.answered p₂)
          (λ G. refl) (λ G. refl) s t in
          (x.packs ∙ ap (λ (o : Outcome). packed o.code o.handle) e.0 ∙ sym y.packs, ap (λ (o : Outcome). o.packet) e.0, e.1)
      in_each_case (inl s) (inr u) = absurd (u.0.unformed s.accepted)
      in_each_case (inr u) (inl t) = absurd (u.0.unformed t.accepted)
      in_each_case (inr u) (inr v) =
          let e = one_unformed u.0 v.0 in
          (x.packs ∙ ap₂ packed e.0 (u.1 ∙ sym v.1) ∙ sym y.packs, u.2 ∙ sym v.2, e.1)

  call_refusal : (b₁ p₁ : List ℕ) (r : ℕ) (x : CallAnswers service handle b b₁ p p₁ r) → x.code ≢ Success → (x.answered ≡ 0) × (p₁ ≡ p) × (b₁ ≡ b)
  call_refusal b₁ p₁ r x d =
      ⊎_elim
      (λ s. let k = service_laws.refusal_keeps service s.accepted.facts handle p _ s.rule d in
      (k.handle, k.packet, sym s.table ∙ ap image k.facts ∙ s.accepted.is))
      (λ u. (u.1, u.2, u.0.table)) x.permitted

  call_stays : (b₁ p₁ : List ℕ) (r : ℕ) → Accepted b → CallAnswers service handle b b₁ p p₁ r → Accepted b₁
  call_stays b₁ p₁ r a x =
      ⊎_elim (λ s. record {
        facts = s.after;
        formed = service_laws.stays_formed service s.accepted.facts handle p _ s.accepted.formed x.bytes s.rule;
        is = s.table;
      })
      (λ u. absurd (u.0.unformed a)) x.permitted

  call_laws : CallLaws service handle b p
  call_laws =
      record {
        one = call_one;
        refusal = call_refusal;
        unformed = λ b₁ p₁ r x none. ⊎_elim (λ s. absurd (none s.accepted)) (λ u. u.0.code_is) x.permitted;
        stays = call_stays;
        taken_apart = λ b₁ p₁ r x. taken_apart r x.code x.answered x.packs;
      }

-- cs_card_in and cs_card_out
module _ (present : Bool) (socket : ℕ) (b : List ℕ) where
  card_one : (b₁ b₂ : List ℕ) (r₁ r₂ : ℕ) → CardAnswers present socket b b₁ r₁ → CardAnswers present socket b b₂ r₂ → (r₁ ≡ r₂) × (b₁ ≡ b₂)
  card_one b₁ b₂ r₁ r₂ x y = in_each_case x.permitted y.permitted
    where
      answer : Code → Facts → CardOutcome
      answer k G = record { code = k; facts = G }

      in_each_case : CardPermitted present socket b b₁ x.code → CardPermitted present socket b b₂ y.code → (r₁ ≡ r₂) × (b₁ ≡ b₂)
      in_each_case (inl s) (inl t) =
          let e =
          one_served (λ (o : CardOutcome). o.facts) (λ (F : Facts). CardTo present F socket) (λ F w. host_laws.one_card present F socket) b b₁ b₂
          (answer x.code) (answer y.code) (λ G. refl) (λ G. refl) s t in
          (x.is ∙ ap (λ (o : CardOutcome). number_of o.code) e.0 ∙ sym y.is, e.1)
      in_each_case (inl s) (inr u) = absurd (u.unformed s.accepted)
      in_each_case (inr u) (inl t) = absurd (u.unformed t.accepted)
      in_each_case (inr u) (inr v) = let e = one_unformed u v in (x.is ∙ ap number_of e.0 ∙ sym y.is, e.1)

  card_laws : CardLaws present socket b
  card_laws =
      record {
        one = card_one;
        refusal = λ b₁ r x d. ⊎_elim
            (λ s. sym s.table ∙ ap image (host_laws.card_refusal present s.accepted.facts socket _ s.rule d) ∙ s.accepted.is)
            (λ u. u.table) x.permitted;
        unformed = λ b₁ r x none. ⊎_elim (λ s. absurd (none s.accepted)) (λ u. u.code_is) x.permitted;
        stays = λ b₁ r a x. ⊎_elim
            (λ s. record {
              facts = s.after;
              formed = host_laws.card_stays present s.accepted.facts socket _ s.accepted.formed s.rule;
              is = s.table;
            })
            (λ u. absurd (u.unformed a)) x.permitted;
      }

-- cs_sharers
module _ (level : ℕ) (b : List ℕ) where
  sharers_one : (r₁ r₂ : ℕ) → SharersAnswers level b r₁ → SharersAnswers level b r₂ → r₁ ≡ r₂
  sharers_one r₁ r₂ x y = in_each_case x.permitted y.permitted
    where
      answer : Code → ℕ → Count
      answer k n = record { code = k; count = n }

      in_each_case : SharersPermitted level b x.code x.count → SharersPermitted level b y.code y.count → r₁ ≡ r₂
      in_each_case (inl s) (inl t) =
          let e = host_laws.one_count s.0.facts level (answer x.code x.count) (answer y.code y.count) s.1
          (subst (λ (F : Facts). Sharers F level (answer y.code y.count)) (facts_one t.0 s.0) t.1) in
          x.packs ∙ ap (λ (o : Count). packed o.code o.count) e ∙ sym y.packs
      in_each_case (inl s) (inr u) = absurd (u.0.unformed s.0)
      in_each_case (inr u) (inl t) = absurd (u.0.unformed t.0)
      in_each_case (inr u) (inr v) = x.packs ∙ ap₂ packed (one_unformed u.0 v.0).0 (u.1 ∙ sym v.1) ∙ sym y.packs

  sharers_laws : SharersLaws level b
  sharers_laws =
      record {
        one = sharers_one;
        refusal = λ r x d. ⊎_elim (λ s. host_laws.count_refusal s.0.facts level _ s.1 d) (λ u. u.1) x.permitted;
        unformed = λ r x none. ⊎_elim (λ s. absurd (none s.0)) (λ u. u.0.code_is) x.permitted;
        most = λ r x. ⊎_elim (λ s. host_laws.count_most s.0.facts level _ s.0.formed s.1) (λ u. omega (arith, u.1)) x.permitted;
        taken_apart = λ r x. taken_apart r x.code x.count x.packs;
      }

-- cs_fresh
module _ (sockets : ℕ) (b : List ℕ) where
  fresh_one : (b₁ b₂ : List ℕ) (r₁ r₂ : ℕ) → FreshAnswers sockets b b₁ r₁ → FreshAnswers sockets b b₂ r₂ → (r₁ ≡ r₂) × (b₁ ≡ b₂)
  fresh_one b₁ b₂ r₁ r₂ (inl x) (inl y) = (x.1 ∙ sym y.1, x.2 ∙ sym y.2)
  fresh_one b₁ b₂ r₁ r₂ (inl x) (inr y) = absurd (y.0 x.0)
  fresh_one b₁ b₂ r₁ r₂ (inr x) (inl y) = absurd (x.0 y.0)
  fresh_one b₁ b₂ r₁ r₂ (inr x) (inr y) = (x.1 ∙ sym y.1, x.2 ∙ sym y.2)

  fresh_laws : FreshLaws sockets b
  fresh_laws =
      record {
        one = fresh_one;
        refusal = λ b₁ r x d. ⊎_elim (λ done. absurd (d done.1)) (λ kept. kept.2) x;
        accepted = λ b₁ r x e. ⊎_elim
            (λ done. (
              record { facts = fresh sockets; formed = host_laws.fresh_formed sockets done.0.least done.0.most; is = sym done.2 },
              refl,
            ))
            (λ kept. absurd (omega (arith, e, kept.1))) x;
      }

-- cs_boot
module _ (records b : List ℕ) where
  boot_one : (b₁ b₂ : List ℕ) (r₁ r₂ : ℕ) → BootAnswers records b b₁ r₁ → BootAnswers records b b₂ r₂ → (r₁ ≡ r₂) × (b₁ ≡ b₂)
  boot_one b₁ b₂ r₁ r₂ x y = in_each_case x.permitted y.permitted
    where
      in_each_case : BootPermitted records b b₁ x.code x.place → BootPermitted records b b₂ y.code y.place → (r₁ ≡ r₂) × (b₁ ≡ b₂)
      in_each_case (inl s) (inl t) =
          let e =
          one_served (λ (o : Booted). o.facts) (λ (F : Facts). BootBytes F records)
          (λ F w. host_laws.one_boot (end_of records) F (records_of records)) b b₁ b₂
          (stopped x.place x.code) (stopped y.place y.code) (λ G. refl) (λ G. refl) s t in
          (x.packs ∙ ap (λ (o : Booted). placed o.code o.place) e.0 ∙ sym y.packs, e.1)
      in_each_case (inl s) (inr u) = absurd (u.0.unformed s.accepted)
      in_each_case (inr u) (inl t) = absurd (u.0.unformed t.accepted)
      in_each_case (inr u) (inr v) =
          let e = one_unformed u.0 v.0 in
          (x.packs ∙ ap₂ placed e.0 (u.1 ∙ sym v.1) ∙ sym y.packs, e.1)

  boot_within : (F : Facts) (o : Booted) → BootBytes F records o → o.place * record_size ≤ length records
  boot_within F o r = omega (arith, host_laws.boot_within (end_of records) F (records_of records) o r, bytes_laws.counted records)

  boot_leaves : (F : Facts) (o : Booted) → BootBytes F records o → o.facts ≡ records_added F (records_in o.place records)
  boot_leaves F o r =
      host_laws.boot_leaves (end_of records) F (records_of records) o r
      ∙ ap (records_added F) (bytes_laws.before records o.place (boot_within F o r))

  boot_success : (F : Facts) (o : Booted) → BootBytes F records o → o.code ≡ Success → length records ≡ o.place * record_size
  boot_success F o r e =
      let s = host_laws.boot_success (end_of records) F (records_of records) o r e in
      omega (arith, s.1, bytes_laws.whole records s.0)

  boot_laws : BootLaws records b
  boot_laws =
      record {
        one = boot_one;
        leaves = λ b₁ r x a. ⊎_elim
            (λ s. sym s.table ∙ ap image (boot_leaves s.accepted.facts _ s.rule)
            ∙ ap (λ (F : Facts). image (records_added F (records_in x.place records))) (facts_one s.accepted a))
            (λ u. absurd (u.0.unformed a)) x.permitted;
        unformed = λ b₁ r x none. ⊎_elim (λ s. absurd (none s.accepted)) (λ u. (u.0.code_is, u.1, u.0.table)) x.permitted;
        stays = λ b₁ r a x. ⊎_elim (λ s. record {
          facts = s.after;
          formed = host_laws.boot_stays (end_of records) s.accepted.facts (records_of records) _ s.accepted.formed s.rule;
          is = s.table;
        })
            (λ u. absurd (u.0.unformed a)) x.permitted;
        success = λ b₁ r x e. ⊎_elim (λ s. boot_success s.accepted.facts _ s.rule e)
            (λ u. absurd (omega (arith, ap number_of (sym e ∙ u.0.code_is)))) x.permitted;
        within = λ b₁ r x. ⊎_elim (λ s. boot_within s.accepted.facts _ s.rule) (λ u. omega (arith, u.1)) x.permitted;
        most = λ b₁ r x. ⊎_elim
            (λ s. host_laws.boot_most (end_of records) s.accepted.facts (records_of records) _ s.accepted.formed s.rule)
            (λ u. omega (arith, u.1)) x.permitted;
        taken_apart = λ b₁ r x. (omega (arith, x.packs, code_byte x.code), omega (arith, x.packs, code_byte x.code));
      }

pub laws : Laws
laws = record { call = call_laws; card = card_laws; sharers = sharers_laws; fresh = fresh_laws; boot = boot_laws }
