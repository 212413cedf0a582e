-- Any two outcomes coincide, a refusal keeps every byte, other tables are refused, and the codes are the fifteen. Assumes nothing.
use Rattle.facts.proofs.Words.{◌≡◌, refl, ap, sym, ◌∙◌, subst, ⊎_elim, List, [], true, false, ℕ, add-zero, ℕ_discrete, arith, T}
use Rattle.history.specs.Given as entry
use Rattle.facts.specs.{Code, Success, BadAttribute, BadBase, BadIrq, BadSize, BadSocket, NoCard, UnsupportedService, GeneralFailure, BadArgLength}
use Rattle.facts.specs.{BadArgs, InUse, NoMoreItems, OutOfResource, BadHandle, number_of, ◌∈◌, records_in, records_added}
use Rattle.facts.proofs.{code_injective}
use Rattle.layout.specs.{image, Accepted}
use Rattle.promises.proofs.{laws}
use Rattle.facts_cases.proofs.{◌then◌}
use Rattle.history.specs.Given.{Given}
use Rattle.history.specs.{Event, given, code_in, make_fresh, call, card_in, card_out, boot, sharers, Ours, OneOutcome, RefusalKeeps}
use Rattle.history.specs.{UnformedRefused, Stays, BootPlaces, TheCodes, fifteen}
use Rattle.history.proofs.Listed.{Each, each_in, lists, listed}
use Rattle.history.proofs.Answered.{packed_code, packed_number, placed_code, placed_number, call_parts, boot_parts, sharers_parts}
use Rattle.history.proofs.Runs.{passes}

-- an event is what was given, with the code, the number and the packet that were answered
abbrev answering : Given → Code → ℕ → List ℕ → Event
answering (entry.make_fresh n) k a q = make_fresh n k
answering (entry.call n h p) k a q = call n h p k a q
answering (entry.card_in s) k a q = card_in s k
answering (entry.card_out s) k a q = card_out s k
answering (entry.boot r) k a q = boot r k a
answering (entry.sharers l) k a q = sharers l k a

pub record Answer (e : Event) : Type 0 where
  pub number : ℕ
  pub packet : List ℕ
  pub is : answering (given e) (code_in e) number packet ≡ e

answer : (e : Event) → Answer e
answer (make_fresh n k) = record { number = 0; packet = []; is = refl }
answer (call n h p k a q) = record { number = a; packet = q; is = refl }
answer (card_in s k) = record { number = 0; packet = []; is = refl }
answer (card_out s k) = record { number = 0; packet = []; is = refl }
answer (boot r k i) = record { number = i; packet = []; is = refl }
answer (sharers l k c) = record { number = c; packet = []; is = refl }

-- two answers to the same
module _ (k k' : Code) (a a' : ℕ) (q q' b b₁ b₂ : List ℕ) where
  one_answer : (g : Given) → Ours (answering g k a q) b b₁ → Ours (answering g k' a' q') b b₂
      → (answering g k a q ≡ answering g k' a' q') × (b₁ ≡ b₂)
  one_answer (entry.make_fresh n) x y = let e = (laws.fresh n b).one b₁ b₂ _ _ x y in (ap (make_fresh n) (code_injective k k' e.0), e.1)
  one_answer (entry.call n h p) x y =
      let e = (laws.call n h b p).one b₁ b₂ q q' _ _ x y in
      ((λ i. call n h p (packed_code k k' a a' e.0 i) (packed_number k k' a a' e.0 i) (e.1 i)), e.2)
  one_answer (entry.card_in s) x y = let e = (laws.card true s b).one b₁ b₂ _ _ x y in (ap (card_in s) (code_injective k k' e.0), e.1)
  one_answer (entry.card_out s) x y = let e = (laws.card false s b).one b₁ b₂ _ _ x y in (ap (card_out s) (code_injective k k' e.0), e.1)
  one_answer (entry.boot r) x y =
      let e = (laws.boot r b).one b₁ b₂ _ _ x y in
      ((λ i. boot r (placed_code k k' a a' e.0 i) (placed_number k k' a a' e.0 i)), e.1)
  one_answer (entry.sharers l) x y =
      let e = (laws.sharers l b).one _ _ x.0 y.0 in
      ((λ i. sharers l (packed_code k k' a a' e i) (packed_number k k' a a' e i)), x.1 ∙ sym y.1)

pub one_outcome : OneOutcome Ours
one_outcome e e' b b₁ b₂ same x y =
    let u = answer e in
    let v = answer e' in
    let moved : (g : Given) → Event = λ g. answering g (code_in e') v.number v.packet in
    let one = one_answer (code_in e) (code_in e') u.number v.number u.packet v.packet b b₁ b₂ (given e)
    (subst (λ (z : Event). Ours z b b₁) (sym u.is) x)
    (subst (λ (g : Given). Ours (moved g) b b₂) (sym same) (subst (λ (z : Event). Ours z b b₂) (sym v.is) y)) in
    (sym u.is ∙ one.0 ∙ ap moved same ∙ v.is, one.1)

pub refusal_keeps : RefusalKeeps Ours
refusal_keeps (make_fresh n k) b b' x = λ d. (laws.fresh n b).refusal b' (number_of k) x (λ e. d (code_injective k Success e))
refusal_keeps (call n h p k a q) b b' x = λ d.
    let same = call_parts n h p q k a x in
    let kept = (laws.call n h b p).refusal b' q _ x (λ e. d (same.0 ∙ e)) in
    (same.1 ∙ kept.0, kept.1, kept.2)
refusal_keeps (card_in s k) b b' x = λ d. (laws.card true s b).refusal b' _ x (λ e. d (code_injective k x.code x.is ∙ e))
refusal_keeps (card_out s k) b b' x = λ d. (laws.card false s b).refusal b' _ x (λ e. d (code_injective k x.code x.is ∙ e))
refusal_keeps (boot r k i) b b' x = (
  (λ none. ((laws.boot r b).unformed b' _ x none).2),
  (λ a. let s = passes a (boot r k i) tt x in
      record {
        before = a;
        after = s.left;
        holds = record {
          facts = λ f. ((s.turns.each f).1, ⊎_elim (s.turns.made f) (λ t. ⊎_elim absurd (λ y. y) ((s.turns.each f).0 t)));
          issued = s.turns.issued ∙ add-zero a.facts.issued;
          sockets = s.turns.sockets;
        };
      }),
)
refusal_keeps (sharers l k c) b b' x = (
  (λ d. let same = sharers_parts l k c x.0 in same.1 ∙ (laws.sharers l b).refusal _ x.0 (λ e. d (same.0 ∙ e))),
  x.1,
)

pub unformed_refused : UnformedRefused Ours
unformed_refused (make_fresh n k) b b' x none = tt
unformed_refused (call n h p k a q) b b' x none = (call_parts n h p q k a x).0 ∙ (laws.call n h b p).unformed b' q _ x none
unformed_refused (card_in s k) b b' x none = code_injective k x.code x.is ∙ (laws.card true s b).unformed b' _ x none
unformed_refused (card_out s k) b b' x none = code_injective k x.code x.is ∙ (laws.card false s b).unformed b' _ x none
unformed_refused (boot r k i) b b' x none =
    let same = boot_parts r k i x in
    let kept = (laws.boot r b).unformed b' _ x none in
    (same.0 ∙ kept.0, same.1 ∙ kept.1)
unformed_refused (sharers l k c) b b' x none = (sharers_parts l k c x.0).0 ∙ (laws.sharers l b).unformed _ x.0 none

pub stays : Stays Ours
stays (make_fresh n k) b b' x a = same_or_not (ℕ_discrete (number_of k) (number_of Success))
  where
    same_or_not : Dec (number_of k ≡ number_of Success) → Accepted b'
    same_or_not (yes e) = ((laws.fresh n b).accepted b' (number_of k) x e).0
    same_or_not (no d) = subst Accepted (sym ((laws.fresh n b).refusal b' (number_of k) x d)) a
stays (call n h p k v q) b b' x a = (laws.call n h b p).stays b' q _ a x
stays (card_in s k) b b' x a = (laws.card true s b).stays b' _ a x
stays (card_out s k) b b' x a = (laws.card false s b).stays b' _ a x
stays (boot r k i) b b' x a = (laws.boot r b).stays b' _ a x
stays (sharers l k c) b b' x a = subst Accepted (sym x.1) a

pub boot_places : BootPlaces Ours
boot_places =
    record {
      success = λ r i b b' x. let same = boot_parts r Success i x in
          omega (arith, (laws.boot r b).success b' _ x (sym same.0), same.1);
      within = λ r k i b b' x. omega (arith, (laws.boot r b).within b' _ x, (boot_parts r k i x).1);
      most = λ r k i b b' x. omega (arith, (laws.boot r b).most b' _ x, (boot_parts r k i x).1);
      leaves = λ r k i b b' x a.
          (laws.boot r b).leaves b' _ x a ∙ ap (λ (j : ℕ). image (records_added a.facts (records_in j r))) (sym (boot_parts r k i x).1);
    }

-- each code's number is listed: a computed test
number_listed : (n : ℕ) → T (lists (λ (x : ℕ). x) (λ x y e. e) fifteen n) → n ∈ fifteen
number_listed = listed (λ (x : ℕ). x) (λ x y e. e) fifteen

code_listed : (k : Code) → number_of k ∈ fifteen
code_listed Success = number_listed (number_of Success) tt
code_listed BadAttribute = number_listed (number_of BadAttribute) tt
code_listed BadBase = number_listed (number_of BadBase) tt
code_listed BadIrq = number_listed (number_of BadIrq) tt
code_listed BadSize = number_listed (number_of BadSize) tt
code_listed BadSocket = number_listed (number_of BadSocket) tt
code_listed NoCard = number_listed (number_of NoCard) tt
code_listed UnsupportedService = number_listed (number_of UnsupportedService) tt
code_listed GeneralFailure = number_listed (number_of GeneralFailure) tt
code_listed BadArgLength = number_listed (number_of BadArgLength) tt
code_listed BadArgs = number_listed (number_of BadArgs) tt
code_listed InUse = number_listed (number_of InUse) tt
code_listed NoMoreItems = number_listed (number_of NoMoreItems) tt
code_listed OutOfResource = number_listed (number_of OutOfResource) tt
code_listed BadHandle = number_listed (number_of BadHandle) tt

-- and each number listed is a code's
numbers : Each (λ (n : ℕ). (k : Code) × (n ≡ number_of k)) fifteen
numbers =
    (Success, refl)
    then (BadAttribute, refl)
    then (BadBase, refl)
    then (BadIrq, refl)
    then (BadSize, refl)
    then (BadSocket, refl)
    then (NoCard, refl)
    then (UnsupportedService, refl)
    then (GeneralFailure, refl)
    then (BadArgLength, refl)
    then (BadArgs, refl)
    then (InUse, refl)
    then (NoMoreItems, refl)
    then (OutOfResource, refl)
    then (BadHandle, refl)
    then tt

pub the_fifteen : TheCodes fifteen
the_fifteen n = (each_in (λ (m : ℕ). (k : Code) × (m ≡ number_of k)) fifteen numbers n, λ x. subst (λ (m : ℕ). m ∈ fifteen) (sym x.1) (code_listed x.0))
