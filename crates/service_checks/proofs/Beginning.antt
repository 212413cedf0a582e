-- What every service on a socket begins with: one of the first checks refuses it, or none does and its own checks decide. Assumes nothing.
use Rattle.facts.proofs.Words.{◌≡◌, refl, ap, sym, ◌∙◌, ◌⊎◌, inl, inr, ◌≢◌, List, [], ◌∷◌, ◌++◌, false, true≢false, ℕ, ◌+◌, ◌≤◌, ◌<◌, arith, length}
use Rattle.facts.proofs.Words.{eq-eqb, ne_eqb}
use Rattle.layout.proofs.Of
use Rattle.facts.specs.{Code, Success, BadArgLength, BadHandle, BadSocket, NoCard, Facts, Live, byte, Check, ◌gives◌, FirstGiven, Passed, Outcome, Ruled, Rule}
use Rattle.facts.specs.{socket_of, BadSocketIn, release_checks, most_clients, most_seats, seat_of}
use Rattle.layout.specs.{image, sockets_in, marked, Accepted, LiveIn, ServedBy, cards_at}
use Rattle.layout.proofs.{live_positive, refused_by, done_by}
use Rattle.service_checks.specs.{NamesSocket, CardEnough, checks_ahead, BegunAt}
use Rattle.service_checks.specs.declared.CardNeed.{CardNeed}
use Rattle.service_checks.specs.declared.CardNeed.TheVariants.{Needed, Ignored}

-- checks with others after them: the first that applies is one of them, or none of them applies
first_of : (cs own : List Check) (k : Code) → FirstGiven cs k → FirstGiven (cs ++ own) k
first_of [] own k f = absurd f
first_of (c ∷ cs) own k (inl x) = inl x
first_of (c ∷ cs) own k (inr x) = inr (x.0, first_of cs own k x.1)

first_past : (cs own : List Check) (k : Code) → Passed cs → FirstGiven own k → FirstGiven (cs ++ own) k
first_past [] own k x f = f
first_past (c ∷ cs) own k x f = inr (x.0, first_past cs own k x.1 f)

passed_both : (cs own : List Check) → Passed cs → Passed own → Passed (cs ++ own)
passed_both [] own x y = y
passed_both (c ∷ cs) own x y = (x.0, passed_both cs own x.1 y)

-- what is known where a service goes on to its own checks
module _ {b p : List ℕ} {n h i s : ℕ} {need : CardNeed} (a : Accepted b) (begun : BegunAt b p n h need i s) where
  -- the seat is the named socket's, and one of a table's
  pub seat_named : s ≡ seat_of (socket_of p)
  seat_named = begun.seat ∙ ap seat_of begun.socket.number

  pub in_seats : s < most_seats
  in_seats = omega (arith, seat_named, begun.socket.counted, Of.sockets_in_lem b a, a.formed.sockets_most)

  -- the client's place is one of a table's
  pub in_clients : i < most_clients
  in_clients = omega (arith, begun.client.listed, Of.clients_in_lem b a, a.formed.clients_most)

  -- the client is live, so that its handle is not 0
  live : Live a.facts h
  live = Of.live_listed b a i h begun.client.listed begun.client.handle

  pub positive : 0 < h
  positive = live_positive a.formed live

-- the first checks, by what the bytes say
module _ {b : List ℕ} (a : Accepted b) (p : List ℕ) (n h : ℕ) where
  -- those of every service, and a request's card
  abbrev three : List Check
  three = release_checks n a.facts h p []

  abbrev no_card_in : List Check
  no_card_in = ((a.facts.card (socket_of p) ≡ false) gives NoCard) ∷ []

  of_three : (need : CardNeed) (k : Code) → FirstGiven three k → FirstGiven (checks_ahead need n a.facts h p) k
  of_three Needed k f = first_of three no_card_in k f
  of_three Ignored k f = f

  pub by_length : (need : CardNeed) → length p ≢ n → FirstGiven (checks_ahead need n a.facts h p) BadArgLength
  by_length need d = of_three need BadArgLength (inl (d, refl))

  module _ (size : length p ≡ n) where
    pub by_handle : (need : CardNeed) → (LiveIn b h → ⊥) → FirstGiven (checks_ahead need n a.facts h p) BadHandle
    by_handle need d = of_three need BadHandle (inr ((λ x. x size), inl ((λ l. d (Of.listed_live b a h l)), refl)))

    module _ (live : Live a.facts h) where
      bad_socket : (sockets_in b ≤ socket_of p) ⊎ (byte p 1 ≢ 0) → BadSocketIn a.facts p
      bad_socket (inl l) = inl (omega (arith, Of.sockets_in_lem b a))
      bad_socket (inr d) = inr d

      pub by_socket : (need : CardNeed) → (sockets_in b ≤ socket_of p) ⊎ (byte p 1 ≢ 0) → FirstGiven (checks_ahead need n a.facts h p) BadSocket
      by_socket need d = of_three need BadSocket (inr ((λ x. x size), inr ((λ x. x live), inl (bad_socket d, refl))))

      module _ {s : ℕ} (named : NamesSocket b p s) where
        good_socket : BadSocketIn a.facts p → ⊥
        good_socket (inl l) = omega (arith, named.counted, Of.sockets_in_lem b a)
        good_socket (inr d) = d named.function

        three_passed : Passed three
        three_passed = ((λ x. x size), ((λ x. x live), (good_socket, tt)))

        -- the socket's byte says whether a card is in it
        card_byte : a.facts.card (socket_of p) ≡ marked (byte b (cards_at + s))
        card_byte =
            ap a.facts.card (sym named.number)
            ∙ Of.card_said b a s (omega (arith, named.number, named.counted, Of.sockets_in_lem b a, a.formed.sockets_most))

        pub by_card : (need : CardNeed) → (CardEnough b s need → ⊥) → FirstGiven (checks_ahead need n a.facts h p) NoCard
        by_card Needed d = first_past three no_card_in NoCard three_passed (inl (card_byte ∙ ne_eqb _ 1 d, refl))
        by_card Ignored d = absurd (d tt)

        none_ahead : (need : CardNeed) → CardEnough b s need → Passed (checks_ahead need n a.facts h p)
        none_ahead Needed e =
            passed_both three no_card_in three_passed ((λ f. true≢false (sym (eq-eqb _ 1 e) ∙ sym card_byte ∙ f)), tt)
        none_ahead Ignored e = three_passed

-- a service on a socket: whether it needs the card, the length of its packet, its own checks, and what is done where none applies
pub record Service : Type 1 where
  pub need : CardNeed
  pub bytes : ℕ
  pub own : Facts → ℕ → List ℕ → List Check
  pub done : Facts → ℕ → List ℕ → Outcome → Type 0

-- its checks, and its rule
abbrev checks_of : Service → Facts → ℕ → List ℕ → List Check
checks_of S F h p = checks_ahead S.need S.bytes F h p ++ S.own F h p

abbrev RuleOf : Service → Rule
RuleOf S F h p = Ruled (checks_of S F h p) (S.done F h p) F p

-- how it ends: one of the first checks refuses it, or one of its own does, or it is done
abbrev Serves : Service → ℕ → List ℕ → List ℕ → List ℕ → List ℕ → Code → ℕ → Type 0
Serves S h p b b' p' k handle = ServedBy (λ (F : Facts). RuleOf S F h p) b b' p' k handle

module _ (S : Service) {b : List ℕ} (a : Accepted b) (h : ℕ) (p : List ℕ) where
  abbrev ahead : List Check
  ahead = checks_ahead S.need S.bytes a.facts h p

  abbrev own : List Check
  own = S.own a.facts h p

  refused : (k : Code) → FirstGiven (ahead ++ own) k → Serves S h p b b p k 0
  refused = refused_by (λ (F : Facts). checks_of S F h p) (λ (F : Facts). S.done F h p) b p a

  pub refused_ahead : (k : Code) → FirstGiven ahead k → Serves S h p b b p k 0
  refused_ahead k f = refused k (first_of ahead own k f)

module _ (S : Service) {b p : List ℕ} {h i s : ℕ} (a : Accepted b) (begun : BegunAt b p S.bytes h S.need i s) where
  passed : Passed (ahead S a h p)
  passed = none_ahead a p S.bytes h begun.size (live a begun) begun.socket S.need begun.card

  pub refused_own : (k : Code) → FirstGiven (own S a h p) k → Serves S h p b b p k 0
  refused_own k f = refused S a h p k (first_past (ahead S a h p) (own S a h p) k passed f)

  pub done_own : (b' p' : List ℕ) (G : Facts) → Passed (own S a h p)
      → S.done a.facts h p (record { code = Success; handle = h; packet = p'; facts = G })
      → image G ≡ b'
      → Serves S h p b b' p' Success h
  done_own b' p' G x d e =
      done_by (λ (F : Facts). checks_of S F h p) (λ (F : Facts). S.done F h p) b p a b' p' h G
      (passed_both (ahead S a h p) (own S a h p) passed x) d e
