-- An event's code and number are those that the promise speaks of, and on an accepted table its rule is that of the facts. Assumes nothing.
use Rattle.facts.proofs.Words.{◌≡◌, refl, sym, ◌∙◌, subst, inl, inr, ⊎_elim, List, Bool, true, false, ℕ, arith, WellFormed}
use Rattle.facts.specs.{Code, Success, GeneralFailure, number_of, Facts, Call, CardTo, Sharers, BootBytes, stopped, records_of, end_of, packed, placed}
use Rattle.facts.proofs.{code_byte, code_injective, service_laws, host_laws}
use Rattle.layout.specs.{image, Accepted}
use Rattle.layout.specs.Served.{Served}
use Rattle.layout.proofs.{one_set}
use Rattle.promises.specs.{CallAnswers, CardAnswers, SharersAnswers, BootAnswers, CallPermitted, CardPermitted, SharersPermitted, BootPermitted}
use Rattle.promises.proofs.{laws}
use Rattle.history.specs.{Event, make_fresh, call, card_in, card_out, boot, sharers, Ours, Entries, GoesOn}

-- whatever an entry answers and leaves as promised is an event
pub entries : Entries
entries =
    record {
      of_fresh = λ n r b b' x. ⊎_elim (λ d. (Success, (d.1, inl (d.0, refl, d.2)))) (λ u. (GeneralFailure, (u.1, inr (u.0, refl, u.2)))) x;
      of_call = λ n h r p q b b' x. (x.code, x.answered, (x.packs, subst (CallAnswers n h b b' p q) x.packs x));
      of_card_in = λ s r b b' x. (x.code, (x.is, subst (CardAnswers true s b b') x.is x));
      of_card_out = λ s r b b' x. (x.code, (x.is, subst (CardAnswers false s b b') x.is x));
      of_boot = λ r rs b b' x. (x.code, x.place, (x.packs, subst (BootAnswers rs b b') x.packs x));
      of_sharers = λ l r b x. (x.code, x.count, (x.packs, (subst (SharersAnswers l b) x.packs x, refl)));
    }

-- one code and one number make a number that is answered
module _ (k k' : Code) (n n' : ℕ) where
  pub packed_code : packed k n ≡ packed k' n' → k ≡ k'
  packed_code e = code_injective k k' (omega (arith, e, code_byte k, code_byte k'))

  pub packed_number : packed k n ≡ packed k' n' → n ≡ n'
  packed_number e = omega (arith, e, code_byte k, code_byte k')

  pub placed_code : placed k n ≡ placed k' n' → k ≡ k'
  placed_code e = code_injective k k' (omega (arith, e, code_byte k, code_byte k'))

  pub placed_number : placed k n ≡ placed k' n' → n ≡ n'
  placed_number e = omega (arith, e, code_byte k, code_byte k')

-- the number answered can be taken apart, so the promise's own code and number are the event's
module _ {b b' : List ℕ} where
  pub call_parts : (n h : ℕ) (p q : List ℕ) (k : Code) (a : ℕ) (x : CallAnswers n h b b' p q (packed k a)) → (k ≡ x.code) × (a ≡ x.answered)
  call_parts n h p q k a x =
      let t = (laws.call n h b p).taken_apart b' q (packed k a) x in
      (code_injective k x.code (omega (arith, t.0, code_byte k)), omega (arith, t.1, code_byte k))

  pub boot_parts : (r : List ℕ) (k : Code) (i : ℕ) (x : BootAnswers r b b' (placed k i)) → (k ≡ x.code) × (i ≡ x.place)
  boot_parts r k i x =
      let t = (laws.boot r b).taken_apart b' (placed k i) x in
      (code_injective k x.code (omega (arith, t.0, code_byte k)), omega (arith, t.1, code_byte k))

  -- and what is permitted is permitted with them
  pub called : (n h : ℕ) (p q : List ℕ) (k : Code) (a : ℕ) → CallAnswers n h b b' p q (packed k a) → CallPermitted n h b b' p q k a
  called n h p q k a x =
      let same = call_parts n h p q k a x in
      subst (λ (c : Code). CallPermitted n h b b' p q c a) (sym same.0)
      (subst (CallPermitted n h b b' p q x.code) (sym same.1) x.permitted)

  pub carded : (v : Bool) (s : ℕ) (k : Code) → CardAnswers v s b b' (number_of k) → CardPermitted v s b b' k
  carded v s k x = subst (CardPermitted v s b b') (sym (code_injective k x.code x.is)) x.permitted

  pub booted : (r : List ℕ) (k : Code) (i : ℕ) → BootAnswers r b b' (placed k i) → BootPermitted r b b' k i
  booted r k i x =
      let same = boot_parts r k i x in
      subst (λ (c : Code). BootPermitted r b b' c i) (sym same.0) (subst (BootPermitted r b b' x.code) (sym same.1) x.permitted)

pub sharers_parts : {b : List ℕ} (l : ℕ) (k : Code) (c : ℕ) (x : SharersAnswers l b (packed k c)) → (k ≡ x.code) × (c ≡ x.count)
sharers_parts {b} l k c x =
    let t = (laws.sharers l b).taken_apart (packed k c) x in
    (code_injective k x.code (omega (arith, t.0, code_byte k)), omega (arith, t.1, code_byte k))

pub counted : {b : List ℕ} (l : ℕ) (k : Code) (c : ℕ) → SharersAnswers l b (packed k c) → SharersPermitted l b k c
counted {b} l k c x =
    let same = sharers_parts l k c x in
    subst (λ (d : Code). SharersPermitted l b d c) (sym same.0) (subst (SharersPermitted l b x.code) (sym same.1) x.permitted)

-- the rule of an event with which a table's life goes on, from facts to facts
abbrev pub Rules : Event → Facts → Facts → Type 0
Rules (make_fresh n k) F G = G ≡ F
Rules (call n h p k a q) F G = Call n F h p (record { code = k; handle = a; packet = q; facts = G })
Rules (card_in s k) F G = CardTo true F s (record { code = k; facts = G })
Rules (card_out s k) F G = CardTo false F s (record { code = k; facts = G })
Rules (boot r k i) F G = BootBytes F r (stopped i k G)
Rules (sharers l k c) F G = Sharers F l (record { code = k; count = c }) × (G ≡ F)

-- the event e takes an accepted table to another, as its rule takes the facts of the one to those of the other
pub record Step (e : Event) (F : Facts) (b' : List ℕ) : Type 0 where
  pub after : Facts
  pub rule : Rules e F after
  pub formed : WellFormed after
  pub is : image after ≡ b'

pub accepted_one : {b : List ℕ} (a a' : Accepted b) → a.facts ≡ a'.facts
accepted_one {b} a a' = one_set b a.facts a'.facts a.formed a'.formed a.is a'.is

module _ {b b' : List ℕ} (a : Accepted b) where
  served : (e : Event) → ((F G : Facts) → WellFormed F → Rules e F G → WellFormed G) → Served (Rules e) b b' → Step e a.facts b'
  served e stays s =
      record {
        after = s.after;
        rule = subst (λ (F : Facts). Rules e F s.after) (accepted_one s.accepted a) s.rule;
        formed = stays s.accepted.facts s.after s.accepted.formed s.rule;
        is = s.table;
      }

  pub stepped : (e : Event) → GoesOn e → Ours e b b' → Step e a.facts b'
  stepped (make_fresh n k) on x =
      record {
        after = a.facts;
        rule = refl;
        formed = a.formed;
        is = a.is ∙ sym ((laws.fresh n b).refusal b' (number_of k) x (λ e. on (code_injective k Success e)));
      }
  stepped (call n h p k v q) on x =
      ⊎_elim (served (call n h p k v q) (λ F G w. service_laws.stays_formed n F h p _ w x.bytes)) (λ u. absurd (u.0.unformed a)) (called n h p q k v x)
  stepped (card_in s k) on x =
      ⊎_elim (served (card_in s k) (λ F G w. host_laws.card_stays true F s _ w)) (λ u. absurd (u.unformed a)) (carded true s k x)
  stepped (card_out s k) on x =
      ⊎_elim (served (card_out s k) (λ F G w. host_laws.card_stays false F s _ w)) (λ u. absurd (u.unformed a)) (carded false s k x)
  stepped (boot r k i) on x =
      ⊎_elim (served (boot r k i) (λ F G w. host_laws.boot_stays (end_of r) F (records_of r) _ w)) (λ u. absurd (u.0.unformed a)) (booted r k i x)
  stepped (sharers l k c) on x =
      ⊎_elim
      (λ s. record {
        after = a.facts;
        rule = (subst (λ (F : Facts). Sharers F l (record { code = k; count = c })) (accepted_one s.0 a) s.1, refl);
        formed = a.formed;
        is = a.is ∙ sym x.1;
      })
      (λ u. absurd (u.0.unformed a)) (counted l k c x.0)
