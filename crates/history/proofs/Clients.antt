-- How clients and masks turn: RegisterClient and DeregisterClient, RequestSocketMask and ReleaseSocketMask. Assumes nothing.
use Rattle.facts.proofs.Words.{◌≡◌, refl, ap, sym, ◌∙◌, subst, ◌⊎◌, inl, inr, ⊎_elim, ◌≢◌, List, [], ◌∷◌, ◌++◌, Bool, cond, Option, none, some}
use Rattle.facts.proofs.Words.{none-ne-some, some-injective, ℕ, ◌+◌, add-zero, ℕ_discrete, eqb, eq-eqb, ne_eqb, WellFormed}
use Rattle.facts.specs.{Facts, Client, ◌∈◌, put, Passed, registered, new_client, next_handle, client_attributes, client_events, with_clients}
use Rattle.facts.specs.{without_client, deregister_checks, socket_of, events_asked, masking, with_mask, request_mask_checks, request_mask_length}
use Rattle.facts.specs.{own_mask_checks, register_client, deregister_client, request_socket_mask, release_socket_mask}
use Rattle.facts.proofs.{put_same, in_left, in_right, in_either, in_map, map_in, in_without, without_in, rising_left_out, listing, live_passed}
use Rattle.facts.proofs.{request_passed}
use Rattle.history.specs.{Fact, client, mask, Made, GivenBack, client_made, mask_made, client_back, mask_back, Tells}
use Rattle.history.proofs.Turns.{Turned, Turns, by_kind, put_turned}
use Rattle.history.proofs.Inverse.{client_only, mask_only, deregister_makes_none, release_mask_makes_none, client_back_only, mask_back_only}
use Rattle.history.proofs.Inverse.{register_keeps, request_mask_keeps}

-- other clients, and another number issued
clients_turn : (F : Facts) (n i : ℕ) (cs : List Client) (Back New : Fact → Type 0) → i ≡ F.issued + n
    → ((f : Fact) → New f → Tells (listing F i cs) f) → ((f : Fact) → Back f → Tells (listing F i cs) f → ⊥)
    → ((h a m : ℕ) → Turned F (listing F i cs) Back New (client h a m)) → ((h s m : ℕ) → Turned F (listing F i cs) Back New (mask h s m))
    → Turns Back New n F (listing F i cs)
clients_turn F n i cs Back New e made gone clients masks =
    record {
      made = made;
      gone = gone;
      each =
          by_kind (Turned F (listing F i cs) Back New) clients masks (λ l r. (inr, inr)) (λ r. (inr, inr)) (λ s. (inr, inr)) (λ s g. (inr, inr))
          (λ s g. (inr, inr));
      issued = e;
      sockets = refl;
    }

pub register_turns : (F : Facts) (h : ℕ) (p : List ℕ) (a : ℕ) (q : List ℕ) → a ≡ next_handle F
    → Turns (GivenBack h p register_client) (Made h p a q register_client) 1 F (registered F (client_attributes p) (client_events p))
register_turns F h p a q answered =
    clients_turn F 1 (next_handle F) (F.clients ++ (new ∷ [])) _ _ refl
    (client_only _ (new, in_right new F.clients (new ∷ []) (inl refl), sym answered, refl, refl)) (register_keeps _)
    (λ k b m. (
      (λ t. inr (t.0, in_left t.0 F.clients (new ∷ []) t.1, t.2, t.3, t.4)),
      (λ t. ⊎_elim (λ i. inr (t.0, i, t.2, t.3, t.4)) (λ i. ⊎_elim (λ e. inl (made k b m t e)) absurd i) (in_either t.0 F.clients (new ∷ []) t.1)),
    ))
    (λ k s m. (
      (λ t. inr (t.0, in_left t.0 F.clients (new ∷ []) t.1, t.2, t.3)),
      (λ t. ⊎_elim (λ i. inr (t.0, i, t.2, t.3))
          (⊎_elim (λ e. absurd (none-ne-some m (sym (ap (λ (c : Client). c.mask s) e) ∙ t.3))) absurd)
          (in_either t.0 F.clients (new ∷ []) t.1)),
    ))
  where
    new : Client
    new = new_client F (client_attributes p) (client_events p)

    made : (k b m : ℕ) (t : Tells (registered F (client_attributes p) (client_events p)) (client k b m)) → t.0 ≡ new
        → Made h p a q register_client (client k b m)
    made k b m t e =
        subst (Made h p a q register_client)
        (λ i. client ((answered ∙ sym (ap (λ (c : Client). c.handle) e) ∙ t.2) i) ((sym (ap (λ (c : Client). c.attributes) e) ∙ t.3) i)
        ((sym (ap (λ (c : Client). c.events) e) ∙ t.4) i))
        client_made

pub deregister_turns : (F : Facts) (h : ℕ) (p : List ℕ) (a : ℕ) (q : List ℕ) → WellFormed F → Passed (deregister_checks F h p)
    → Turns (GivenBack h p deregister_client) (Made h p a q deregister_client) 0 F (with_clients F (without_client h F.clients))
deregister_turns F h p a q w passed =
    clients_turn F 0 F.issued (without_client h F.clients) _ _ (sym (add-zero F.issued)) (deregister_makes_none _)
    (client_back_only _ (λ b m t. rising_left_out 0 h F.clients w.handles t.0 t.1 t.2))
    (λ k b m. (
      (λ t. left t.0 t.1 (λ e. inl (subst (λ (x : ℕ). GivenBack h p deregister_client (client x b m)) (sym e ∙ t.2) client_back))
          (λ i. inr (t.0, i, t.2, t.3, t.4))),
      (λ t. inr (t.0, without_in number h t.0 F.clients t.1, t.2, t.3, t.4)),
    ))
    (λ k s m. (
      (λ t. left t.0 t.1
          (λ e. absurd (passed.1.1.0 (inr (inr (s, m, record { client = t.0; listed = t.1; handle = e; mask = t.3 })))))
          (λ i. inr (t.0, i, t.2, t.3))),
      (λ t. inr (t.0, without_in number h t.0 F.clients t.1, t.2, t.3)),
    ))
  where
    number : Client → ℕ
    number c = c.handle

    -- a client is the one left out, or stays
    left : {A : Type 0} (c : Client) → c ∈ F.clients → (c.handle ≡ h → A) → (c ∈ without_client h F.clients → A) → A
    left {A} c i this other = same_or_not (ℕ_discrete c.handle h)
      where
        same_or_not : Dec (c.handle ≡ h) → A
        same_or_not (yes e) = this e
        same_or_not (no d) = other (in_without number h c F.clients i d)

-- another mask, or none, of the client h for the socket s
module _ (F : Facts) (h s : ℕ) (x : Option ℕ) where
  abbrev masked : Client → Client
  masked c = cond (eqb c.handle h) (masking s x c) c

  abbrev after : Facts
  after = with_clients F (with_mask h s x F.clients)

  masked_is : (c : Client) → ((c.handle ≡ h) × (masked c ≡ masking s x c)) ⊎ ((c.handle ≢ h) × (masked c ≡ c))
  masked_is c = same_or_not (ℕ_discrete c.handle h)
    where
      same_or_not : Dec (c.handle ≡ h) → ((c.handle ≡ h) × (masked c ≡ masking s x c)) ⊎ ((c.handle ≢ h) × (masked c ≡ c))
      same_or_not (yes e) = inl (e, ap (λ (t : Bool). cond t (masking s x c) c) (eq-eqb c.handle h e))
      same_or_not (no d) = inr (d, ap (λ (t : Bool). cond t (masking s x c) c) (ne_eqb c.handle h d))

  -- what a client keeps
  masked_same : {A : Type 0} (part : Client → A) → ((c : Client) → part (masking s x c) ≡ part c) → (c : Client) → part (masked c) ≡ part c
  masked_same part same c = ⊎_elim (λ e. ap part e.1 ∙ same c) (λ e. ap part e.1) (masked_is c)

  same_handle : (c : Client) → (masked c).handle ≡ c.handle
  same_handle = masked_same (λ (c : Client). c.handle) (λ c. refl)

  same_attributes : (c : Client) → (masked c).attributes ≡ c.attributes
  same_attributes = masked_same (λ (c : Client). c.attributes) (λ c. refl)

  same_events : (c : Client) → (masked c).events ≡ c.events
  same_events = masked_same (λ (c : Client). c.events) (λ c. refl)

  -- its mask there is x
  pub masked_there : (c : Client) → c ∈ F.clients → c.handle ≡ h → (e : ℕ) → x ≡ some e → Tells after (mask h s e)
  masked_there c i q e y = (
    masked c,
    in_map masked c F.clients i,
    same_handle c ∙ q,
    ⊎_elim (λ k. ap (λ (d : Client). d.mask s) k.1 ∙ put_same c.mask s x ∙ y)
        (λ k. absurd (k.0 q)) (masked_is c),
  )

  pub there_masked : (e : ℕ) → Tells after (mask h s e) → x ≡ some e
  there_masked e t =
      let c = map_in masked t.0 F.clients t.1 in
      ⊎_elim (λ k. sym (put_same c.0.mask s x) ∙ sym (ap (λ (d : Client). d.mask s) (c.2 ∙ k.1)) ∙ t.3)
      (λ k. absurd (k.0 (sym (ap (λ (d : Client). d.handle) (c.2 ∙ k.1)) ∙ t.2))) (masked_is c.0)

  module _ (Back New : Fact → Type 0) (back : (c : Client) → c ∈ F.clients → c.handle ≡ h → (m : ℕ) → c.mask s ≡ some m → Back (mask h s m) ⊎ (x ≡ some m))
      (new : (m : ℕ) → x ≡ some m → New (mask h s m)) where
    client_turned : (k a m : ℕ) → Turned F after Back New (client k a m)
    client_turned k a m = (
      (λ t. let c = t.0 in
          inr (masked c, in_map masked c F.clients t.1, same_handle c ∙ t.2, same_attributes c ∙ t.3, same_events c ∙ t.4)),
      (λ t. let c = map_in masked t.0 F.clients t.1 in
          inr (
            c.0,
            c.1,
            sym (ap (λ (d : Client). d.handle) c.2 ∙ same_handle c.0) ∙ t.2,
            sym (ap (λ (d : Client). d.attributes) c.2 ∙ same_attributes c.0) ∙ t.3,
            sym (ap (λ (d : Client). d.events) c.2 ∙ same_events c.0) ∙ t.4,
          )),
    )

    -- the masks of the client h
    own_turned : (c : Client) → c ∈ F.clients → c.handle ≡ h → (t m : ℕ)
        → (c.mask t ≡ some m → Back (mask h t m) ⊎ (put c.mask s x t ≡ some m)) × (put c.mask s x t ≡ some m → New (mask h t m) ⊎ (c.mask t ≡ some m))
    own_turned c i e t m =
        put_turned c.mask s x (some m) (λ (j : ℕ). Back (mask h j m)) (λ (j : ℕ). New (mask h j m)) (back c i e m) (λ y. inl (new m y)) t

    mask_turned : (k t m : ℕ) → Turned F after Back New (mask k t m)
    mask_turned k t m = (kept, came)
      where
        kept : Tells F (mask k t m) → Back (mask k t m) ⊎ Tells after (mask k t m)
        kept (c, i, e, q) = ⊎_elim
            (λ own. ⊎_elim (λ y. inl (subst (λ (j : ℕ). Back (mask j t m)) (sym own.0 ∙ e) y))
            (λ y. inr (masked c, in_map masked c F.clients i, same_handle c ∙ e, ap (λ (d : Client). d.mask t) own.1 ∙ y))
            ((own_turned c i own.0 t m).0 q))
            (λ other. inr (masked c, in_map masked c F.clients i, same_handle c ∙ e, ap (λ (d : Client). d.mask t) other.1 ∙ q))
            (masked_is c)

        came : Tells after (mask k t m) → New (mask k t m) ⊎ Tells F (mask k t m)
        came (d, i, e, q) = let y = map_in masked d F.clients i in of_each y.0 y.1 y.2 (masked_is y.0)
          where
            of_each : (c : Client) → c ∈ F.clients → d ≡ masked c → ((c.handle ≡ h) × (masked c ≡ masking s x c)) ⊎ ((c.handle ≢ h) × (masked c ≡ c))
                → New (mask k t m) ⊎ Tells F (mask k t m)
            of_each c j same (inl own) =
                let here = sym (ap (λ (z : Client). z.handle) same ∙ same_handle c) ∙ e in
                ⊎_elim (λ y. inl (subst (λ (z : ℕ). New (mask z t m)) (sym own.0 ∙ here) y)) (λ y. inr (c, j, here, y))
                ((own_turned c j own.0 t m).1 (sym (ap (λ (z : Client). z.mask t) (same ∙ own.1)) ∙ q))
            of_each c j same (inr other) =
                inr (c, j, sym (ap (λ (z : Client). z.handle) (same ∙ other.1)) ∙ e, sym (ap (λ (z : Client). z.mask t) (same ∙ other.1)) ∙ q)

    pub mask_turns : ((f : Fact) → New f → Tells after f) → ((f : Fact) → Back f → Tells after f → ⊥) → Turns Back New 0 F after
    mask_turns made gone =
        clients_turn F 0 F.issued (with_mask h s x F.clients) Back New (sym (add-zero F.issued)) made gone client_turned mask_turned

module _ (F : Facts) (h : ℕ) (p : List ℕ) (a : ℕ) (q : List ℕ) where
  pub request_mask_turns : Passed (request_mask_checks F h p)
      → Turns (GivenBack h p request_socket_mask) (Made h p a q request_socket_mask) 0 F
      (with_clients F (with_mask h (socket_of p) (some (events_asked p)) F.clients))
  request_mask_turns passed =
      let live = live_passed request_mask_length F h p (own_mask_checks F h p) passed in
      let own = request_passed request_mask_length F h p (own_mask_checks F h p) passed in
      mask_turns F h (socket_of p) (some (events_asked p)) _ _
      (λ c i e m y. absurd (own.1.0 (m, record { client = c; listed = i; handle = e; mask = y })))
      (λ m y. subst (λ (z : ℕ). Made h p a q request_socket_mask (mask h (socket_of p) z)) (some-injective (events_asked p) m y) mask_made)
      (mask_only _ (masked_there F h (socket_of p) (some (events_asked p)) live.client live.listed live.handle (events_asked p) refl))
      (request_mask_keeps _)

  pub release_mask_turns : Turns (GivenBack h p release_socket_mask) (Made h p a q release_socket_mask) 0 F
      (with_clients F (with_mask h (socket_of p) none F.clients))
  release_mask_turns =
      mask_turns F h (socket_of p) none _ _ (λ c i e m y. inl mask_back) (λ m y. absurd (none-ne-some m y)) (release_mask_makes_none _)
      (mask_back_only _ (λ m t. none-ne-some m (there_masked F h (socket_of p) none m t)))
