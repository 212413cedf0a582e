-- The clients' numbers, place by place: sound in each place, counted, and zero past the last one exactly if the clients are listed. Assumes nothing.
use Rattle.facts.proofs.Words.{◌≡◌, ◌≢◌, sym, ap, ◌∙◌, ◌⊎◌, inl, inr, ⊎_elim, by_cases, List, ℕ, zero, suc, ◌+◌, ◌-◌, ◌/◌, ◌≤◌, ◌<◌, dec_lt, arith}
use Rattle.facts.proofs.Words.{bit_and, eqb, false, Says}
use Rattle.facts.specs.{byte, word, most_clients, AttributesAllowed, EventsAllowed}
use Rattle.facts.proofs.{says_true, says_false}
use Rattle.layout.specs.{clients_in, issued_in, handle_in, handle_before, handle_place, attributes_place, events_place, Zero, attributes_at, events_at, ios_at}
use Rattle.layout.proofs.Parts.{Below, below_at}
use Rattle.layout.proofs.Lists.{climb}
use Rattle.table_clients.specs.{OneType, PlacesSound, Counted, PlacesEnd, ClientsListed}

-- a type is one bit, of the seven that there could be
pub type_says : (k : ℕ) → k < 7 → Says (eqb (bit_and (k + 1) k) 0) (OneType (k + 1))
type_says =
    let P : ℕ → Type 0 = (λ k. Says (eqb (bit_and (k + 1) k) 0) (OneType (k + 1))) in
    let no : (k : ℕ) → (k ≢ 1) × (k ≢ 2) × (k ≢ 4) → Says false (OneType k) = (λ k d. says_false (⊎_elim d.0 (⊎_elim d.1 d.2))) in
    let up-to-four : Below 4 P =
    ((((tt, says_true (inl (omega arith))), says_true (inr (inl (omega arith)))), no 3 (omega arith)), says_true (inr (inr (omega arith)))) in
    below_at 7 P (((up-to-four, no 5 (omega arith)), no 6 (omega arith)), no 7 (omega arith))

module _ (b : List ℕ) (most : clients_in b ≤ most_clients) where
  -- the two bytes of a number that is 0
  bytes_zero : (at q : ℕ) → word b at ≡ 0 → at ≤ q → q < at + 2 → byte b q ≡ 0
  bytes_zero at q z l m =
      by_cases (dec_lt q (at + 1)) (λ h. let e : q ≡ at = omega arith in ap (byte b) e ∙ omega (arith, z))
      (λ h. let e : q ≡ at + 1 = omega arith in ap (byte b) e ∙ omega (arith, z))

  word_zero : (at : ℕ) → byte b at ≡ 0 → byte b (at + 1) ≡ 0 → word b at ≡ 0
  word_zero at x y = omega (arith, x, y)

  module _ (sound : PlacesSound b) (counted : Counted b) (end : PlacesEnd b) where
    -- where there is no client there is none after it
    stays_zero : (n i : ℕ) → i ≤ n → n ≤ most_clients → handle_in b i ≡ 0 → handle_in b n ≡ 0
    stays_zero zero i l m z = let e : zero ≡ i = omega arith in ap (handle_in b) e ∙ z
    stays_zero (suc n) i l m z =
        by_cases (dec_lt n i) (λ h. ap (handle_in b) (omega arith) ∙ z)
        (λ h. let here = stays_zero n i (omega arith) (omega arith) z in
        ap (handle_in b) (omega arith) ∙ ⊎_elim (λ x. x.1.last) (λ x. absurd (x.used here)) (sound n (omega arith)))

    none_past : (i : ℕ) → clients_in b ≤ i → i ≤ most_clients → handle_in b i ≡ 0
    none_past i l m = stays_zero i (clients_in b) l m counted.past

    used : (i : ℕ) → i < clients_in b → handle_in b i ≢ 0
    used i l z = omega (arith, stays_zero (clients_in b - 1) i (omega arith) (omega arith) z, (counted.last (omega arith)).0)

    client : (i : ℕ) → i < clients_in b → EventsAllowed (word b (events_place i)) × AttributesAllowed (byte b (attributes_place i))
    client i l =
        ⊎_elim (λ x. absurd (used i l x.0)) (λ x. (x.events_allowed, x.attributes_allowed)) (sound i (omega arith))

    rises : (i : ℕ) → suc i < clients_in b → handle_in b i < handle_in b (suc i)
    rises i l =
        let next : i + 1 ≡ suc i = omega arith in
        ⊎_elim (λ x. absurd (used i (omega arith) x.0))
        (λ x. ⊎_elim (λ z. absurd (used (suc i) l (sym (ap (handle_in b) next) ∙ z))) (λ m. omega (arith, m, ap (handle_in b) next)) x.rises)
        (sound i (omega arith))

    over : (i : ℕ) → i < clients_in b → handle_before b i < handle_in b i
    over zero l = omega (arith, used 0 l)
    over (suc i) l = rises i l

    issued : (i : ℕ) → i < clients_in b → handle_in b i ≤ issued_in b
    issued i l =
        let last = (counted.last (omega arith)).1 in
        by_cases (dec_lt i (clients_in b - 1))
        (λ h. let up = climb (handle_in b) (handle_in b) (clients_in b - 1) i (λ k. omega arith) (λ k m. omega (arith, rises k (omega arith))) h in
        omega arith)
        (λ h. let e : i ≡ clients_in b - 1 = omega arith in omega (arith, last, ap (handle_in b) e))

    -- past the last client
    handles_zero : Zero b (handle_place (clients_in b)) attributes_at
    handles_zero q l m =
        by_cases (dec_lt q (handle_place most_clients))
        (λ h. let i = (q - handle_place 0) / 2 in bytes_zero (handle_place i) q (none_past i (omega arith) (omega arith)) (omega arith) (omega arith))
        (λ h. end.handles q (omega arith) m)

    no_client_lem : (i : ℕ) → clients_in b ≤ i → i < most_clients → (word b (events_place i) ≡ 0) × (byte b (attributes_place i) ≡ 0)
    no_client_lem i l m =
        ⊎_elim (λ x. (x.1.no_events, x.1.no_attributes)) (λ x. absurd (x.used (none_past i l (omega arith)))) (sound i m)

    attributes_zero : Zero b (attributes_place (clients_in b)) events_at
    attributes_zero q l m =
        by_cases (dec_lt q (attributes_place most_clients))
        (λ h. let i = q - attributes_place 0 in ap (byte b) (omega arith) ∙ (no_client_lem i (omega arith) (omega arith)).1)
        (λ h. end.attributes q (omega arith) m)

    events_zero : Zero b (events_place (clients_in b)) ios_at
    events_zero q l m =
        by_cases (dec_lt q (events_place most_clients))
        (λ h. let i = (q - events_place 0) / 2 in
        bytes_zero (events_place i) q (no_client_lem i (omega arith) (omega arith)).0 (omega arith) (omega arith)) (λ h. end.events q (omega arith) m)

    pub listed : ClientsListed b
    listed =
        record {
          sound = λ i l. record { over = over i l; issued = issued i l; attributes = (client i l).1; events = (client i l).0 };
          end = record { handles = handles_zero; attributes = attributes_zero; events = events_zero };
        }

  -- and the other way round
  module _ (listed : ClientsListed b) where
    past_zero : (i : ℕ) → clients_in b ≤ i → i ≤ most_clients → handle_in b i ≡ 0
    past_zero i l m =
        let z = listed.end.handles in
        word_zero (handle_place i) (z (handle_place i) (omega arith) (omega arith)) (z (handle_place i + 1) (omega arith) (omega arith))

    next_over : (i : ℕ) → i < clients_in b → (handle_in b (i + 1) ≡ 0) ⊎ (handle_in b i < handle_in b (i + 1))
    next_over i l =
        let e : suc i ≡ i + 1 = omega arith in
        by_cases (dec_lt (i + 1) (clients_in b)) (λ h. inr (omega (arith, (listed.sound (suc i) (omega arith)).over, ap (handle_in b) e)))
        (λ h. inl (past_zero (i + 1) (omega arith) (omega arith)))

    handle_used : (i : ℕ) → i < clients_in b → handle_in b i ≢ 0
    handle_used i l z = omega (arith, (listed.sound i l).over, z)

    pub place_listed : PlacesSound b
    place_listed i m =
        by_cases (dec_lt i (clients_in b))
        (λ l. let client = listed.sound i l in
        inr (record { used = handle_used i l; rises = next_over i l; events_allowed = client.events; attributes_allowed = client.attributes }))
        (λ l. let events = listed.end.events in
        inl (
          past_zero i (omega arith) (omega arith),
          record {
            last = past_zero (i + 1) (omega arith) (omega arith);
            no_events = word_zero (events_place i) (events (events_place i) (omega arith) (omega arith))
                (events (events_place i + 1) (omega arith) (omega arith));
            no_attributes = listed.end.attributes (attributes_place i) (omega arith) (omega arith);
          },
        ))

    pub counted_listed : Counted b
    counted_listed =
        record {
          past = past_zero (clients_in b) (omega arith) most;
          last = λ l. let last = listed.sound (clients_in b - 1) (omega arith) in (omega (arith, last.over), last.issued);
        }

    pub end_listed : PlacesEnd b
    end_listed =
        record {
          handles = λ q l m. listed.end.handles q (omega arith) m;
          attributes = λ q l m. listed.end.attributes q (omega arith) m;
          events = λ q l m. listed.end.events q (omega arith) m;
        }
