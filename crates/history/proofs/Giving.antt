-- How an example of a code is told: what a rule permits on a well-formed table is given. Assumes nothing.
use Rattle.facts.proofs.Words.{◌≡◌, refl, ◌⊎◌, inl, inr, List, [], ◌∷◌, Bool, true, false, cond, ℕ, zero, suc, ◌≤◌, ◌<◌, arith, length, T, ltb}
use Rattle.facts.proofs.Words.{ltb-true, WellFormed}
use Rattle.facts.specs.{Code, GeneralFailure, Facts, Bytes, Outcome, Passed, Kept, adjust_checks, Service, service_number, rule_of, Call, BootBytes}
use Rattle.facts.specs.{stopped, packed}
use Rattle.facts.proofs.{service_laws}
use Rattle.layout.specs.{image, Accepted, TableRefused}
use Rattle.layout.specs.Served.{Served}
use Rattle.layout.proofs.{accepted_sound}
use Rattle.promises.specs.{CallAnswers}
use Rattle.facts_cases.specs.{refused}
use Rattle.facts_cases.proofs.{as_kept, ◌then◌, ◌nor◌}
use Rattle.history.specs.{Ours, service, boot_list, CanGive}

-- a packet's numbers are bytes: a computed test
abbrev pub all_bytes : List ℕ → Bool
all_bytes [] = true
all_bytes (x ∷ p) = cond (ltb x 256) (all_bytes p) false

pub bytes : (p : List ℕ) → T (all_bytes p) → Bytes p
bytes [] t at = omega arith
bytes (x ∷ p) t at = marked_or_not (ltb x 256) (ltb-true x 256) (bytes p) t at
  where
    marked_or_not : (below : Bool) → (below ≡ true → x < 256) → (T (all_bytes p) → Bytes p) → T (cond below (all_bytes p) false) → Bytes (x ∷ p)
    marked_or_not false e later t _ = elim t [ ]
    marked_or_not true e later t zero = e refl
    marked_or_not true e later t (suc at) = later t at

-- no bytes at all are no table
pub no_table : TableRefused [] [] GeneralFailure
no_table = record { unformed = λ a. omega (arith, (accepted_sound [] a).size); code_is = refl; table = refl }

pub uncalled : (n : ℕ) → CallAnswers n 0 [] [] [] [] (packed GeneralFailure 0)
uncalled n = record { code = GeneralFailure; answered = 0; packs = refl; bytes = bytes [] tt; permitted = inr (no_table, refl, refl) }

pub general : (v : Service) → CanGive Ours (service v) GeneralFailure
general v = (0, 0, [], [], [], [], uncalled (service_number v))

-- on a well-formed table
module _ {F : Facts} (w : WellFormed F) where
  abbrev pub accepted : Accepted (image F)
  accepted = record { facts = F; formed = w; is = refl }

  pub serving : {R : Facts → Facts → Type 0} (G : Facts) → R F G → Served R (image F) (image G)
  serving G r = record { accepted = accepted; after = G; rule = r; table = refl }

  pub calls : (n h : ℕ) (p : List ℕ) (o : Outcome) → T (all_bytes p) → Call n F h p o
      → CallAnswers n h (image F) (image o.facts) p o.packet (packed o.code o.handle)
  calls n h p o t r = record { code = o.code; answered = o.handle; packs = refl; bytes = bytes p t; permitted = inl (serving o.facts r) }

  pub serves : (v : Service) (h : ℕ) (p : List ℕ) (o : Outcome) → T (all_bytes p) → rule_of v F h p o
      → CallAnswers (service_number v) h (image F) (image o.facts) p o.packet (packed o.code o.handle)
  serves v h p o t r = calls (service_number v) h p o t (inl (record { service = v; number_is = refl }, r))

  pub gives : (v : Service) (h : ℕ) (p : List ℕ) (o : Outcome) → T (all_bytes p) → rule_of v F h p o → CanGive Ours (service v) o.code
  gives v h p o t r = (h, o.handle, p, o.packet, _, _, serves v h p o t r)

  pub refuses : (v : Service) (h : ℕ) (p : List ℕ) (k : Code) → T (all_bytes p) → rule_of v F h p (refused k p F) → CanGive Ours (service v) k
  refuses v h p k = gives v h p (refused k p F)

  pub boots : (b : List ℕ) (i : ℕ) (k : Code) (G : Facts) → BootBytes F b (stopped i k G) → CanGive Ours boot_list k
  boots b i k G r = (b, _, _, i, record { code = k; place = i; packs = refl; permitted = inl (serving G r) })

  -- what a rule leaves is well formed, too
  pub left : (v : Service) (h : ℕ) (p : List ℕ) (o : Outcome) → T (all_bytes p) → rule_of v F h p o → WellFormed o.facts
  left v h p o t r = service_laws.stays_formed (service_number v) F h p o w (bytes p t) (inl (record { service = v; number_is = refl }, r))

-- the first check that applies: it stands here, or past one that doesn't apply
pub here : {A B : Type 0} {k : Code} → A → (A × (k ≡ k)) ⊎ B
here a = inl (a, refl)

infixr 2 ◌past◌
pub ◌past◌ : {A B C : Type 0} → (A → ⊥) → B → C ⊎ ((A → ⊥) × B)
f past b = inr (f, b)

-- a refusal keeps packet and facts
pub first : {F : Facts} {p : List ℕ} {k : Code} {A B : Type 0} → A → (A × Kept F p (refused k p F)) ⊎ B
first {F} {p} {k} a = inl (a, as_kept k p F)

-- the first checks of AdjustResourceInfo pass for a level, with any action, attributes and level; and for ports to add in the long form
pub level_named : (action a l : ℕ) → action ≤ 3 → Passed (adjust_checks (action ∷ 2 ∷ a ∷ l ∷ []))
level_named action a l known =
    (omega arith) then (λ e. omega arith) then (omega arith nor omega arith nor omega arith) then (omega arith) then (omega arith nor omega arith)
    then tt

pub range_named : (q : List ℕ) → length q ≡ 10 → Passed (adjust_checks (1 ∷ 1 ∷ q))
range_named q size =
    (λ e. omega (arith, e, size)) then (omega arith) then (omega arith nor omega arith nor omega arith) then (omega arith)
    then (omega arith nor (λ e. e.2 (omega (arith, size))))
    then tt
