-- RegisterClient never answers a handle again, and never 0. Assumes nothing.
use Rattle.facts.proofs.Words.{◌≡◌, refl, ap, sym, ◌∙◌, subst, inl, inr, List, [], ◌∷◌, ◌++◌, append_assoc, Bool, cond, ℕ, ◌+◌, zero-add, arith, eqb}
use Rattle.facts.proofs.Words.{eq-eqb}
use Rattle.facts.specs.{Code, Success, Record, number_of, Facts, ◌∈◌, Outcome, register_checks, next_handle, Service, register_client, service_number}
use Rattle.facts.specs.{rule_of}
use Rattle.facts.proofs.{number_injective, none_succeeds, first_not_success}
use Rattle.history.specs.{Event, make_fresh, call, card_in, card_out, boot, sharers, Ours, FromFresh, client, Made, Recorded, Registers}
use Rattle.history.specs.{registration, registrations, client_made, NeverAgain}
use Rattle.history.proofs.Answered.{Rules, stepped}
use Rattle.history.proofs.Turns.{kind}
use Rattle.history.proofs.Runs.{exact, cut_short}

-- a client is made by RegisterClient alone, with the handle that it answers
client_maker : {h : ℕ} {p : List ℕ} {a : ℕ} {q : List ℕ} (v : Service) (x b m : ℕ) → Made h p a q v (client x b m) → (v ≡ register_client) × (a ≡ x)
client_maker v x b m client_made = (refl, refl)

no_record : (r : Record) (x b m : ℕ) → Recorded r (client x b m) → ⊥
no_record r x b m = elim [ ]

-- the handle that it answers is the one after those issued
next_answered : (F : Facts) (h : ℕ) (p : List ℕ) (o : Outcome) → rule_of register_client F h p o → o.code ≡ Success → o.handle ≡ next_handle F
next_answered F h p o (inl r) e = absurd (first_not_success (register_checks F p) o.code (none_succeeds (register_checks F p) tt) r.0 e)
next_answered F h p o (inr r) e = r.1.1.handle

module _ (F G : Facts) where
  call_answers : (n h : ℕ) (p : List ℕ) (k : Code) (a : ℕ) (q : List ℕ) → Rules (call n h p k a q) F G → n ≡ service_number register_client → k ≡ Success
      → a ≡ next_handle F
  call_answers n h p k a q (inl (s, r)) number e =
      let o : Outcome = record { code = k; handle = a; packet = q; facts = G } in
      next_answered F h p o (subst (λ (v : Service). rule_of v F h p o) (number_injective s.service register_client (s.number_is ∙ number)) r) e
  call_answers n h p k a q (inr r) number e = absurd (omega (arith, ap number_of (sym r.1 ∙ e)))

  -- an event that registers the handle x
  pub registers_next : (e : Event) (x : ℕ) → Rules e F G → Registers e x → (x ≡ next_handle F) × (registration e ≡ 1)
  registers_next (call n h p k a q) x r (b, m, made) =
      let maker = client_maker made.1 x b m made.3 in
      let registers : n ≡ service_number register_client = sym made.2 ∙ ap service_number maker.0 in (
        sym maker.1 ∙ call_answers n h p k a q r registers made.0,
        ap (λ (t : Bool). cond t (cond (eqb (number_of k) (number_of Success)) 1 0) 0) (eq-eqb n (service_number register_client) registers)
            ∙ ap (λ (t : Bool). cond t 1 0) (eq-eqb (number_of k) (number_of Success) (ap number_of made.0)),
      )
  registers_next (make_fresh n k) x r (b, m, made) = absurd made
  registers_next (card_in s k) x r (b, m, made) = absurd (omega (arith, ap kind made.1))
  registers_next (card_out s k) x r (b, m, made) = absurd made
  registers_next (boot records k i) x r (b, m, made) = absurd (no_record made.0 x b m made.2)
  registers_next (sharers l k c) x r (b, m, made) = absurd made

-- in a run it is the number of registrations so far, and one
pub nth_handle : (n : ℕ) (es later : List Event) (e : Event) (x : ℕ) (b : List ℕ) → FromFresh Ours n (es ++ (e ∷ later)) b → Registers e x
    → (x ≡ registrations es + 1) × (registration e ≡ 1)
nth_handle n es later e x b from r =
    let c = cut_short Ours n es (e ∷ later) b from in
    let t = exact n es c.0 c.1 in
    let s = stepped t.accepted e c.2.0 c.2.2 in
    let y = registers_next t.accepted.facts s.after e x s.rule r in
    (omega (arith, y.0, t.issued_are), y.1)

registrations_more : (es more : List Event) → registrations (es ++ more) ≡ registrations es + registrations more
registrations_more [] more = sym (zero-add (registrations more))
registrations_more (e ∷ es) more = omega (arith, registrations_more es more)

-- an event of a list comes after some and before others
listed_cut : (e : Event) (es : List Event) → e ∈ es → (earlier later : List Event) × (es ≡ earlier ++ (e ∷ later))
listed_cut e [] m = absurd m
listed_cut e (x ∷ es) (inl i) = ([], es, ap (λ (y : Event). y ∷ es) (sym i))
listed_cut e (x ∷ es) (inr m) = let c = listed_cut e es m in (x ∷ c.0, c.1, ap (λ (y : List Event). x ∷ y) c.2)

pub never_again : NeverAgain Ours
never_again n earlier later e h b from r = ((λ z. omega (arith, one.0, z)), again)
  where
    one : (h ≡ registrations earlier + 1) × (registration e ≡ 1)
    one = nth_handle n earlier later e h b from r

    again : (e' : Event) → e' ∈ later → Registers e' h → ⊥
    again e' m r' =
        let c = listed_cut e' later m in
        let joined = ap (λ (es : List Event). earlier ++ (e ∷ es)) c.2 ∙ sym (append_assoc earlier (e ∷ c.0) (e' ∷ c.1)) in
        let other = nth_handle n (earlier ++ (e ∷ c.0)) c.1 e' h b (subst (λ (es : List Event). FromFresh Ours n es b) joined from) r' in
        omega (arith, one.0, one.1, other.0, registrations_more earlier (e ∷ c.0))
