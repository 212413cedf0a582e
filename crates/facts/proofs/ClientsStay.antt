-- RegisterClient, DeregisterClient, socket masks, card in and card out leave a well-formed set well formed. Assumes nothing.
use Rattle.facts.proofs.Words.{◌≡◌, refl, sym, ◌∙◌, subst, ◌⊎◌, inl, inr, ◌≢◌, List, [], ◌∷◌, Bool, cond, Option, none, some}
use Rattle.facts.proofs.Words.{some-injective, none-ne-some, ℕ, ◌<◌, dec_lt, arith, eqb, length, length-append, WellFormed}
use Rattle.facts.specs.{request_mask_checks, release_mask_checks, deregister_checks, Facts, Client, ◌∈◌, word, ClientFits, Live, EventsAllowed}
use Rattle.facts.specs.{Check, Outcome, Passed, Register, Deregister, register_checks, registered, new_client, with_clients, without_client, CardTo}
use Rattle.facts.specs.{CardOutcome, RequestSocketMask, ReleaseSocketMask, socket_of, request_checks, own_mask_checks, request_mask_length, masking}
use Rattle.facts.specs.{with_mask, all_events, most_clients, most_issued}
use Rattle.facts.proofs.Sets.{cond_cases, in_left, in_either, in_map, map_in, length_map, without_in, in_without, without_fewer, put_all}
use Rattle.facts.proofs.Sets.{rising_more, rising_without, rising_map}
use Rattle.facts.proofs.Told.{told, live_told, attributes_told}
use Rattle.facts.proofs.Formed.{live_in, client_fits, card_formed, clients_formed, leaves_stays}

-- clients are told apart by their handles
abbrev number : Client → ℕ
number c = c.handle

-- what the first checks of a request on a socket tell where they pass
module _ (n : ℕ) (F : Facts) (h : ℕ) (p : List ℕ) (own : List Check) where
  pub live_passed : Passed (request_checks n F h p own) → Live F h
  live_passed passed = told (live_told F h) passed.1.0

  pub socket_passed : Passed (request_checks n F h p own) → socket_of p < F.sockets
  socket_passed passed = told (dec_lt (socket_of p) F.sockets) (λ d. passed.1.1.0 (inl (omega arith)))

  pub request_passed : Passed (request_checks n F h p own) → Passed own
  request_passed passed = passed.1.1.1.1

module _ (F : Facts) (h : ℕ) (p : List ℕ) (o : Outcome) (w : WellFormed F) where
  pub register_stays : Register F h p o → WellFormed o.facts
  register_stays =
      leaves_stays w (register_checks F p)
      (λ passed. let room = told (dec_lt (length F.clients) most_clients) (λ d. passed.1.1.1.0 (inl (omega arith))) in
      let left = told (dec_lt F.issued most_issued) (λ d. passed.1.1.1.0 (inr (omega arith))) in
      clients_formed F w _ _ (omega (arith, left)) (omega (arith, room, length-append F.clients (new ∷ [])))
      (rising_more 0 F.clients new w.handles (omega arith) (λ x m. omega (arith, (w.clients x m).issued)))
      (λ c m. fits passed c (in_either c F.clients (new ∷ []) m)) (λ s g e. lives (w.ios s g e).client) (λ s g e. lives (w.irqs s g e).client))
    where
      G : Facts
      G = registered F (word p 0) (word p 2)

      new : Client
      new = new_client F (word p 0) (word p 2)

      lives : {k : ℕ} → Live F k → Live G k
      lives {k} = live_in F G k (λ c m q. in_left c F.clients (new ∷ []) m)

      fits : Passed (register_checks F p) → (c : Client) → (c ∈ F.clients) ⊎ (c ∈ (new ∷ [])) → ClientFits G c
      fits passed c (inl m) = client_fits F G refl c (omega arith) (w.clients c m)
      fits passed c (inr (inl e)) =
          subst (ClientFits G) (sym e)
          (record {
            issued = omega arith;
            attributes = told (attributes_told (word p 0)) passed.1.0;
            events = told (dec_lt (word p 2) all_events) passed.1.1.0;
            mask = λ s m q. absurd (none-ne-some m q);
          })
      fits passed c (inr (inr m)) = absurd m

  pub deregister_stays : Deregister F h p o → WellFormed o.facts
  deregister_stays =
      leaves_stays w (deregister_checks F h p)
      (λ passed. let held = passed.1.1.0 in
      clients_formed F w _ _ w.issued (omega (arith, without_fewer number h F.clients, w.clients_most))
      (rising_without 0 h F.clients w.handles)
      (λ c m. client_fits F G refl c (omega arith) (w.clients c (without_in number h c F.clients m)))
      (λ s g e. lives g.client (λ q. held (inl (record { seat = s; range = g; held = e; holder = q }))) (w.ios s g e).client)
      (λ s g e. lives g.client (λ q. held (inr (inl (record { seat = s; grant = g; live = e; holder = q })))) (w.irqs s g e).client))
    where
      G : Facts
      G = with_clients F (without_client h F.clients)

      lives : (k : ℕ) → k ≢ h → Live F k → Live G k
      lives k d = live_in F G k (λ c m e. in_without number h c F.clients m (λ q. d (sym e ∙ q)))

-- another mask, or none, of the client h at the seat s
module _ (F : Facts) (h s : ℕ) (m : Option ℕ) (w : WellFormed F) where
  abbrev masked : Client → Client
  masked c = cond (eqb c.handle h) (masking s m c) c

  -- its cases
  by_handle : (P : Client → Type 0) (c : Client) → P (masking s m c) → P c → P (masked c)
  by_handle P c there other = cond_cases P (eqb c.handle h) (masking s m c) c (λ e. there) (λ e. other)

  pub mask_formed : ((e : ℕ) → m ≡ some e → (s < F.sockets) × EventsAllowed e) → WellFormed (with_clients F (with_mask h s m F.clients))
  mask_formed good =
      clients_formed F w _ _ w.issued (omega (arith, length_map masked F.clients, w.clients_most))
      (rising_map masked same 0 F.clients w.handles)
      (λ c i. let x = map_in masked c F.clients i in subst (ClientFits G) (sym x.2) (fits x.0 x.1))
      (λ t g e. lives (w.ios t g e).client)
      (λ t g e. lives (w.irqs t g e).client)
    where
      G : Facts
      G = with_clients F (with_mask h s m F.clients)

      same : (c : Client) → (masked c).handle ≡ c.handle
      same c = by_handle (λ (x : Client). x.handle ≡ c.handle) c refl refl

      lives : {k : ℕ} → Live F k → Live G k
      lives l =
          record { client = masked l.client; listed = in_map masked l.client F.clients l.listed; handle = same l.client ∙ l.handle }

      fits : (c : Client) → c ∈ F.clients → ClientFits G (masked c)
      fits c i =
          let f = w.clients c i in
          by_handle (ClientFits G) c
          (record {
            issued = f.issued;
            attributes = f.attributes;
            events = f.events;
            mask =
                put_all (λ (t : ℕ) (x : Option ℕ). (e : ℕ) → x ≡ some e → (t < F.sockets) × EventsAllowed e) c.mask s m good (λ t d. f.mask t);
          })
          (client_fits F G refl c (omega arith) f)

module _ (F : Facts) (h : ℕ) (p : List ℕ) (o : Outcome) (w : WellFormed F) where
  pub request_mask_stays : RequestSocketMask F h p o → WellFormed o.facts
  request_mask_stays =
      leaves_stays w (request_mask_checks F h p)
      (λ passed. mask_formed F h (socket_of p) (some (word p 2)) w
      (λ e q. (
        socket_passed request_mask_length F h p (own_mask_checks F h p) passed,
        subst EventsAllowed (some-injective (word p 2) e q)
            (told (dec_lt (word p 2) all_events) (request_passed request_mask_length F h p (own_mask_checks F h p) passed).0),
      )))

  pub release_mask_stays : ReleaseSocketMask F h p o → WellFormed o.facts
  release_mask_stays =
      leaves_stays w (release_mask_checks F h p) (λ _. mask_formed F h (socket_of p) none w (λ e q. absurd (none-ne-some e q)))

pub card_stays : (present : Bool) (F : Facts) (s : ℕ) (o : CardOutcome) → WellFormed F → CardTo present F s o → WellFormed o.facts
card_stays present F s o w (inl r) = subst WellFormed (sym r.1) w
card_stays present F s o w (inr r) =
    subst WellFormed (sym r.1.1) (card_formed F w s present (told (dec_lt s F.sockets) (λ d. r.0.0 (omega arith))))
