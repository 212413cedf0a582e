-- Keepers that are wrong once, held against demand 3: each does as this keeper, and permits one event more. Assumes nothing.
use Rattle.facts.proofs.Words.{◌≡◌, refl, ap, sym, ◌∙◌, subst, ◌⊎◌, inl, inr, ⊎_elim, ◌↔◌, ◌≢◌, List, [], ◌∷◌, ◌++◌, append_assoc, Bool, true, ℕ}
use Rattle.facts.proofs.Words.{◌+◌, ◌<◌, add-zero, arith, length, WellFormed}
use Rattle.facts.specs.{Code, Success, Record, Width, Facts, IoGrant, IrqGrant, ◌∈◌, Meet, Together, type_of, client_attributes, client_events}
use Rattle.facts.specs.{socket_of, events_asked, action_of, resource_of, add, remove, first, next, irq_level, io_range, level_given, io_adjust_length}
use Rattle.facts.specs.{base_given, count_given, level_attributes, attributes_given, reserves, assigned_irq, type_asked_lem, base_asked_lem, io_grant, io_asked}
use Rattle.facts.specs.{count_asked_lem, records_in, Service, register_client, deregister_client, adjust_resource_info, request_irq}
use Rattle.facts.specs.{release_irq, request_io, release_io, request_socket_mask, release_socket_mask, service_number, most_sockets, irq_grant, irq_asked}
use Rattle.facts.proofs.{in_right, number_injective}
use Rattle.layout.specs.{image, Accepted}
use Rattle.history.specs.{Event, make_fresh, call, card_in, card_out, boot, sharers, Keeper, Ours, GoesOn, Runs, FromFresh, Fact, client, mask}
use Rattle.history.specs.{level, range, card, io, irq, Made, GivenBack, Recorded, Makes, GivesBack, StandsSince, Registers, registration}
use Rattle.history.specs.{registrations, client_made, mask_made, level_made, range_made, io_made, irq_made, level_recorded, range_recorded}
use Rattle.history.specs.{client_back, mask_back, level_back, range_back, io_back, irq_back, Tells, TellsExactly, Name, the_client, the_mask}
use Rattle.history.specs.{the_level, the_range, the_card, the_io, the_irq, the_issued, the_sockets, name_of, NamedBy, Framed, register_client_named}
use Rattle.history.specs.{register_issued, deregister, request_mask, release_mask, adjust_level, adjust_range, request_io_named, release_io_named}
use Rattle.history.specs.{request_irq_named, release_irq_named, Exact, ExactSince, Frame, CardOutKeeps, NeverAgain, OneGrant, PortsApart, LevelsApart}
use Rattle.history.specs.{Once, Number, SharersCounted}
use Rattle.history.specs.Stands.{Stands}
use Rattle.history.specs.Names.{Names}
use Rattle.history.proofs.Standing.{stands_never, stands_last, last_stands}
use Rattle.history.proofs.Frame.{showing_names_none}
use Rattle.history.proofs.Giving.{accepted}
use Rattle.history.proofs.SampleRuns.{says}
use Rattle.history.proofs.WrongOnce.{Besides, besides, between}

-- a run of this keeper is one of theirs, and so is one with the event that is permitted besides as its last
runs_too : (e₀ : Event) (b₀ b₀' b : List ℕ) (es : List Event) (b' : List ℕ) → Runs Ours b es b' → Runs (Besides e₀ b₀ b₀') b es b'
runs_too e₀ b₀ b₀' b [] b' r = r
runs_too e₀ b₀ b₀' b (e ∷ es) b' (on, m, x, r) = (on, m, inl x, runs_too e₀ b₀ b₀' m es b' r)

run_more : (K : Keeper) (b : List ℕ) (es : List Event) (m : List ℕ) (e : Event) (b' : List ℕ) → Runs K b es m → GoesOn e → K e m b'
    → Runs K b (es ++ (e ∷ [])) b'
run_more K b [] m e b' r on x = (on, b', subst (λ (c : List ℕ). K e c b') r x, refl)
run_more K b (d ∷ es) m e b' (on', c, y, r) on x = (on', c, y, run_more K c es m e b' r on x)

pub then_once : (n : ℕ) (es : List Event) (b : List ℕ) → FromFresh Ours n es b → (e : Event) → GoesOn e → (b' : List ℕ)
    → FromFresh (Besides e b b') n (es ++ (e ∷ [])) b'
then_once n es b from e on b' =
    record {
      old = from.old;
      start = from.start;
      made = inl from.made;
      runs = run_more (Besides e b b') from.start es b e b' (runs_too e b b' from.start es b from.runs) on (besides e b b');
    }

-- Exact, after any run of this keeper
module _ (n : ℕ) (es : List Event) (b : List ℕ) (from : FromFresh Ours n es b) (e : Event) (on : GoesOn e) where
  abbrev log : List Event
  log = es ++ (e ∷ [])

  -- no table is left
  pub exact_none_wrong : (b' : List ℕ) → (Accepted b' → ⊥) → Exact (Besides e b b') → ⊥
  exact_none_wrong b' none x = none (x n log b' (then_once n es b from e on b')).accepted

  module _ {G : Facts} (w : WellFormed G) where
    told : Exact (Besides e b (image G)) → TellsExactly (image G) n (registrations log) (Stands log)
    told x = x n log (image G) (then_once n es b from e on (image G))

    -- another socket count, another number issued
    pub exact_sockets_wrong : G.sockets ≢ n → Exact (Besides e b (image G)) → ⊥
    exact_sockets_wrong d x = d (ap (λ (F : Facts). F.sockets) (sym (says w (told x).accepted)) ∙ (told x).sockets_are)

    pub exact_issued_wrong : G.issued ≢ registrations log → Exact (Besides e b (image G)) → ⊥
    exact_issued_wrong d x = d (ap (λ (F : Facts). F.issued) (sym (says w (told x).accepted)) ∙ (told x).issued_are)

    -- what was given back stays, what nobody made appears; what was made is missing, what stood is lost
    pub exact_stays_wrong : (f : Fact) → GivesBack e f → (Makes e f → ⊥) → Tells G f → Exact (Besides e b (image G)) → ⊥
    exact_stays_wrong f back unmade t x =
        ⊎_elim unmade (λ s. s.1 back)
        (stands_last f es e (((told x).tells f).0 (subst (λ (F : Facts). Tells F f) (sym (says w (told x).accepted)) t)))

    pub exact_appears_wrong : (f : Fact) → (Makes e f → ⊥) → (Stands es f → ⊥) → Tells G f → Exact (Besides e b (image G)) → ⊥
    exact_appears_wrong f unmade never t x =
        ⊎_elim unmade (λ s. never s.0)
        (stands_last f es e (((told x).tells f).0 (subst (λ (F : Facts). Tells F f) (sym (says w (told x).accepted)) t)))

    pub exact_missing_wrong : (f : Fact) → Makes e f → (Tells G f → ⊥) → Exact (Besides e b (image G)) → ⊥
    exact_missing_wrong f made gone x =
        gone (subst (λ (F : Facts). Tells F f) (says w (told x).accepted) (((told x).tells f).1 (last_stands f es e (inl made))))

    pub exact_lost_wrong : (f : Fact) → Stands es f → (GivesBack e f → ⊥) → (Tells G f → ⊥) → Exact (Besides e b (image G)) → ⊥
    exact_lost_wrong f stood kept gone x =
        gone (subst (λ (F : Facts). Tells F f) (says w (told x).accepted) (((told x).tells f).1 (last_stands f es e (inr (stood, kept)))))

-- what a service that succeeds may give back, and nothing else
abbrev pub may_give_back : ℕ → List ℕ → Service → Fact → Type 0
may_give_back h p register_client f = ⊥
may_give_back h p deregister_client f = (attributes events : ℕ) × (f ≡ client h attributes events)
may_give_back h p adjust_resource_info f =
    (action_of p ≡ remove) × (v : Bool)
    × (((resource_of p ≡ irq_level) × (f ≡ level (level_given p) v))
    ⊎ ((resource_of p ≡ io_range)
    × ((w : Width) × (length p ≡ io_adjust_length w) × (f ≡ range (record { base = base_given w p; count = count_given w p; reserved = v })))))
may_give_back h p request_irq f = ⊥
may_give_back h p release_irq f =
    (g : IrqGrant) × (f ≡ irq (socket_of p) g) × (g.client ≡ h) × (g.level ≡ assigned_irq p) × (type_of g.manner ≡ type_asked_lem p)
may_give_back h p request_io f = ⊥
may_give_back h p release_io f =
    (g : IoGrant) × (f ≡ io (socket_of p) g) × (g.client ≡ h) × (g.ports.base ≡ base_asked_lem p) × (g.ports.count ≡ count_asked_lem p)
may_give_back h p request_socket_mask f = ⊥
may_give_back h p release_socket_mask f = (events : ℕ) × (f ≡ mask h (socket_of p) events)

back_only : {h : ℕ} {p : List ℕ} (v : Service) (f : Fact) → GivenBack h p v f → may_give_back h p v f
back_only v f client_back = (_, _, refl)
back_only v f mask_back = (_, refl)
back_only v f (level_back e i) = (i, _, inl (e, refl))
back_only v f (range_back w n e i) = (i, _, inr (e, (w, n, refl)))
back_only v f (io_back holder base count) = (_, refl, holder, base, count)
back_only v f (irq_back holder number type) = (_, refl, holder, number, type)

-- so a service that takes another fact is wrong, and so is any other event that takes one: but for card out, which gives its card back
module _ (n : ℕ) (es : List Event) (b : List ℕ) (from : FromFresh Ours n es b) {G : Facts} (w : WellFormed G) (f : Fact) (stood : Stands es f)
    (gone : Tells G f → ⊥) where
  pub exact_takes_wrong : (v : Service) (h : ℕ) (p : List ℕ) (k : Code) (a : ℕ) (q : List ℕ) → (k ≢ Success) ⊎ (may_give_back h p v f → ⊥)
      → Exact (Besides (call (service_number v) h p k a q) b (image G)) → ⊥
  exact_takes_wrong v h p k a q other =
      exact_lost_wrong n es b from (call (service_number v) h p k a q) tt w f stood
      (λ back. ⊎_elim (λ d. d back.0)
      (λ d. d (back_only v f (subst (λ (u : Service). GivenBack h p u f) (number_injective back.1 v back.2) back.3))) other)
      gone

  pub exact_fresh_takes_wrong : (m : ℕ) (k : Code) → k ≢ Success → Exact (Besides (make_fresh m k) b (image G)) → ⊥
  exact_fresh_takes_wrong m k refused = exact_lost_wrong n es b from (make_fresh m k) refused w f stood (λ back. back) gone

  pub exact_card_in_takes_wrong : (s : ℕ) (k : Code) → Exact (Besides (card_in s k) b (image G)) → ⊥
  exact_card_in_takes_wrong s k = exact_lost_wrong n es b from (card_in s k) tt w f stood (λ back. back) gone

  pub exact_card_out_takes_wrong : (s : ℕ) (k : Code) → (k ≢ Success) ⊎ (f ≢ card s) → Exact (Besides (card_out s k) b (image G)) → ⊥
  exact_card_out_takes_wrong s k other =
      exact_lost_wrong n es b from (card_out s k) tt w f stood (λ back. ⊎_elim (λ d. d back.0) (λ d. d back.1) other) gone

  pub exact_boot_takes_wrong : (r : List ℕ) (k : Code) (i : ℕ) → Exact (Besides (boot r k i) b (image G)) → ⊥
  exact_boot_takes_wrong r k i = exact_lost_wrong n es b from (boot r k i) tt w f stood (λ back. back) gone

  pub exact_question_takes_wrong : (l c : ℕ) (k : Code) → Exact (Besides (sharers l k c) b (image G)) → ⊥
  exact_question_takes_wrong l c k = exact_lost_wrong n es b from (sharers l k c) tt w f stood (λ back. back) gone

-- what a service that succeeds makes, and that it gives back all that it may: nothing more has to hold of what it was given
abbrev pub must_make : ℕ → List ℕ → ℕ → List ℕ → Service → Fact → Type 0
must_make h p a q register_client f = f ≡ client a (client_attributes p) (client_events p)
must_make h p a q deregister_client f = ⊥
must_make h p a q adjust_resource_info f =
    (action_of p ≡ add)
    × (((resource_of p ≡ irq_level) × (f ≡ level (level_given p) (reserves (level_attributes p))))
    ⊎ ((resource_of p ≡ io_range)
    × ((w : Width) × (length p ≡ io_adjust_length w)
    × (f ≡ range (record { base = base_given w p; count = count_given w p; reserved = reserves (attributes_given w p) })))))
must_make h p a q request_irq f = f ≡ irq (socket_of p) (irq_grant h (irq_asked p) (assigned_irq q))
must_make h p a q release_irq f = ⊥
must_make h p a q request_io f = f ≡ io (socket_of p) (io_grant h (io_asked p) (base_asked_lem q))
must_make h p a q release_io f = ⊥
must_make h p a q request_socket_mask f = f ≡ mask h (socket_of p) (events_asked p)
must_make h p a q release_socket_mask f = ⊥

made_all : (h : ℕ) (p : List ℕ) (a : ℕ) (q : List ℕ) (v : Service) (f : Fact) → must_make h p a q v f → Made h p a q v f
made_all h p a q register_client f e = subst (Made h p a q register_client) (sym e) client_made
made_all h p a q deregister_client f m = absurd m
made_all h p a q adjust_resource_info f (act, inl (is, e)) = subst (Made h p a q adjust_resource_info) (sym e) (level_made is act)
made_all h p a q adjust_resource_info f (act, inr (is, (w, n, e))) = subst (Made h p a q adjust_resource_info) (sym e) (range_made w n is act)
made_all h p a q request_irq f e = subst (Made h p a q request_irq) (sym e) irq_made
made_all h p a q release_irq f m = absurd m
made_all h p a q request_io f e = subst (Made h p a q request_io) (sym e) io_made
made_all h p a q release_io f m = absurd m
made_all h p a q request_socket_mask f e = subst (Made h p a q request_socket_mask) (sym e) mask_made
made_all h p a q release_socket_mask f m = absurd m

back_all : (h : ℕ) (p : List ℕ) (v : Service) (f : Fact) → may_give_back h p v f → GivenBack h p v f
back_all h p register_client f m = absurd m
back_all h p deregister_client f (x, y, e) = subst (GivenBack h p deregister_client) (sym e) client_back
back_all h p adjust_resource_info f (act, v, inl (is, e)) = subst (GivenBack h p adjust_resource_info) (sym e) (level_back is act)
back_all h p adjust_resource_info f (act, v, inr (is, (w, n, e))) = subst (GivenBack h p adjust_resource_info) (sym e) (range_back w n is act)
back_all h p request_irq f m = absurd m
back_all h p release_irq f (g, e, holder, number, type) = subst (GivenBack h p release_irq) (sym e) (irq_back holder number type)
back_all h p request_io f m = absurd m
back_all h p release_io f (g, e, holder, base, count) = subst (GivenBack h p release_io) (sym e) (io_back holder base count)
back_all h p request_socket_mask f m = absurd m
back_all h p release_socket_mask f (x, e) = subst (GivenBack h p release_socket_mask) (sym e) mask_back

-- so an event that only says that it made or gave something back is wrong: a service, a boot list, card in, card out
module _ (n : ℕ) (es : List Event) (b : List ℕ) (from : FromFresh Ours n es b) {G : Facts} (w : WellFormed G) where
  pub exact_unmade_wrong : (v : Service) (h : ℕ) (p : List ℕ) (a : ℕ) (q : List ℕ) (f : Fact) → must_make h p a q v f → (Tells G f → ⊥)
      → Exact (Besides (call (service_number v) h p Success a q) b (image G)) → ⊥
  exact_unmade_wrong v h p a q f makes =
      exact_missing_wrong n es b from (call (service_number v) h p Success a q) tt w f (refl, v, refl, made_all h p a q v f makes)

  pub exact_kept_wrong : (v : Service) (h : ℕ) (p : List ℕ) (a : ℕ) (q : List ℕ) (f : Fact) → may_give_back h p v f
      → (Makes (call (service_number v) h p Success a q) f → ⊥) → Tells G f → Exact (Besides (call (service_number v) h p Success a q) b (image G)) → ⊥
  exact_kept_wrong v h p a q f gives =
      exact_stays_wrong n es b from (call (service_number v) h p Success a q) tt w f (refl, v, refl, back_all h p v f gives)

  pub boot_level_unmade_wrong : (r : List ℕ) (k : Code) (i : ℕ) (x : Record) → x ∈ records_in i r → x.resource ≡ irq_level
      → (Tells G (level x.base (reserves x.attributes)) → ⊥) → Exact (Besides (boot r k i) b (image G)) → ⊥
  boot_level_unmade_wrong r k i x listed is = exact_missing_wrong n es b from (boot r k i) tt w _ (x, listed, level_recorded is)

  pub boot_range_unmade_wrong : (r : List ℕ) (k : Code) (i : ℕ) (x : Record) → x ∈ records_in i r → x.resource ≡ io_range
      → (Tells G (range (record { base = x.base; count = x.count; reserved = reserves x.attributes })) → ⊥)
      → Exact (Besides (boot r k i) b (image G)) → ⊥
  boot_range_unmade_wrong r k i x listed is = exact_missing_wrong n es b from (boot r k i) tt w _ (x, listed, range_recorded is)

  pub card_in_unmade_wrong : (s : ℕ) → (Tells G (card s) → ⊥) → Exact (Besides (card_in s Success) b (image G)) → ⊥
  card_in_unmade_wrong s = exact_missing_wrong n es b from (card_in s Success) tt w (card s) (refl, refl)

  pub card_out_kept_wrong : (s : ℕ) → Tells G (card s) → Exact (Besides (card_out s Success) b (image G)) → ⊥
  card_out_kept_wrong s = exact_stays_wrong n es b from (card_out s Success) tt w (card s) (refl, refl) (λ m. m)

-- ReleaseIO by a stranger, with another base or with another count; ReleaseIRQ by a stranger, with another level or with another type
io_own : {h : ℕ} {p : List ℕ} (v : Service) (s : ℕ) (g : IoGrant) → GivenBack h p v (io s g)
    → (g.client ≡ h) × (g.ports.base ≡ base_asked_lem p) × (g.ports.count ≡ count_asked_lem p)
io_own v s g (io_back holder base count) = (holder, base, count)

irq_own : {h : ℕ} {p : List ℕ} (v : Service) (s : ℕ) (g : IrqGrant) → GivenBack h p v (irq s g)
    → (g.client ≡ h) × (g.level ≡ assigned_irq p) × (type_of g.manner ≡ type_asked_lem p)
irq_own v s g (irq_back holder number type) = (holder, number, type)

module _ (n : ℕ) (es : List Event) (b : List ℕ) (from : FromFresh Ours n es b) (h : ℕ) (p : List ℕ) (a : ℕ) (q : List ℕ) {G : Facts} (w : WellFormed G)
    (s : ℕ) where
  pub io_strange_wrong : (g : IoGrant) → Stands es (io s g) → (Tells G (io s g) → ⊥)
      → (g.client ≢ h) ⊎ (g.ports.base ≢ base_asked_lem p) ⊎ (g.ports.count ≢ count_asked_lem p)
      → Exact (Besides (call (service_number release_io) h p Success a q) b (image G)) → ⊥
  io_strange_wrong g stood gone other =
      exact_lost_wrong n es b from (call (service_number release_io) h p Success a q) tt w (io s g) stood
      (λ back. let own = io_own back.1 s g back.3 in
      ⊎_elim (λ d. d own.0) (⊎_elim (λ d. d own.1) (λ d. d own.2)) other) gone

  pub irq_strange_wrong : (g : IrqGrant) → Stands es (irq s g) → (Tells G (irq s g) → ⊥)
      → (g.client ≢ h) ⊎ (g.level ≢ assigned_irq p) ⊎ (type_of g.manner ≢ type_asked_lem p)
      → Exact (Besides (call (service_number release_irq) h p Success a q) b (image G)) → ⊥
  irq_strange_wrong g stood gone other =
      exact_lost_wrong n es b from (call (service_number release_irq) h p Success a q) tt w (irq s g) stood
      (λ back. let own = irq_own back.1 s g back.3 in
      ⊎_elim (λ d. d own.0) (⊎_elim (λ d. d own.1) (λ d. d own.2)) other) gone

-- ExactSince, from any table
since_one : (P : Fact → Type 0) (e : Event) (f : Fact) → StandsSince P (e ∷ []) f ↔ (Makes e f ⊎ (P f × (GivesBack e f → ⊥)))
since_one P e f = (
  ⊎_elim (λ s. ⊎_elim inl (λ t. absurd (stands_never f t.0)) (stands_last f [] e s)) (λ t. inr (t.0, t.1 e (inl refl))),
  ⊎_elim (λ m. inl (last_stands f [] e (inl m)))
      (λ t. inr (t.0, λ y i. ⊎_elim (λ same back. t.1 (subst (λ (z : Event). GivesBack z f) same back)) absurd i)),
)

module _ {F : Facts} (w : WellFormed F) (e : Event) (on : GoesOn e) where
  pub since_none_wrong : (b' : List ℕ) → (Accepted b' → ⊥) → ExactSince (Besides e (image F) b') → ⊥
  since_none_wrong b' none x = none (x (image F) b' (e ∷ []) (accepted w) (on, b', besides e (image F) b', refl)).accepted

  module _ {G : Facts} (w' : WellFormed G) where
    since : ExactSince (Besides e (image F) (image G))
        → TellsExactly (image G) F.sockets (F.issued + registrations (e ∷ [])) (StandsSince (Tells F) (e ∷ []))
    since x = x (image F) (image G) (e ∷ []) (accepted w) (on, image G, besides e (image F) (image G), refl)

    turned : (x : ExactSince (Besides e (image F) (image G))) (f : Fact) → Tells G f ↔ (Makes e f ⊎ (Tells F f × (GivesBack e f → ⊥)))
    turned x f =
        subst (λ (H : Facts). Tells H f ↔ (Makes e f ⊎ (Tells F f × (GivesBack e f → ⊥)))) (says w' (since x).accepted) (
          (λ t. (since_one (Tells F) e f).0 (((since x).tells f).0 t)),
          (λ t. ((since x).tells f).1 ((since_one (Tells F) e f).1 t)),
        )

    pub since_sockets_wrong : G.sockets ≢ F.sockets → ExactSince (Besides e (image F) (image G)) → ⊥
    since_sockets_wrong d x = d (ap (λ (H : Facts). H.sockets) (sym (says w' (since x).accepted)) ∙ (since x).sockets_are)

    pub since_issued_wrong : G.issued ≢ F.issued + registration e → ExactSince (Besides e (image F) (image G)) → ⊥
    since_issued_wrong d x =
        d (ap (λ (H : Facts). H.issued) (sym (says w' (since x).accepted)) ∙ (since x).issued_are ∙ ap (λ (i : ℕ). F.issued + i) (add-zero (registration e)))

    pub since_stays_wrong : (f : Fact) → GivesBack e f → (Makes e f → ⊥) → Tells G f → ExactSince (Besides e (image F) (image G)) → ⊥
    since_stays_wrong f back unmade t x = ⊎_elim unmade (λ s. s.1 back) ((turned x f).0 t)

    pub since_appears_wrong : (f : Fact) → (Makes e f → ⊥) → (Tells F f → ⊥) → Tells G f → ExactSince (Besides e (image F) (image G)) → ⊥
    since_appears_wrong f unmade never t x = ⊎_elim unmade (λ s. never s.0) ((turned x f).0 t)

    pub since_missing_wrong : (f : Fact) → Makes e f → (Tells G f → ⊥) → ExactSince (Besides e (image F) (image G)) → ⊥
    since_missing_wrong f made gone x = gone ((turned x f).1 (inl made))

    pub since_lost_wrong : (f : Fact) → Tells F f → (GivesBack e f → ⊥) → (Tells G f → ⊥) → ExactSince (Besides e (image F) (image G)) → ⊥
    since_lost_wrong f stood kept gone x = gone ((turned x f).1 (inr (stood, kept)))

-- Frame: a name changes that the event doesn't name
module _ (e : Event) {F : Facts} (w : WellFormed F) where
  pub frame_none_wrong : (b' : List ℕ) → (Accepted b' → ⊥) → Frame (Besides e (image F) b') → ⊥
  frame_none_wrong b' none x = none (x e (image F) b' (accepted w) (besides e (image F) b')).after

  module _ {G : Facts} (w' : WellFormed G) where
    framed : Frame (Besides e (image F) (image G)) → Framed e F G
    framed x = between w w' (Framed e) (x e (image F) (image G) (accepted w) (besides e (image F) (image G)))

    pub frame_lost_wrong : (f : Fact) → (Names e (name_of f) → ⊥) → Tells F f → (Tells G f → ⊥) → Frame (Besides e (image F) (image G)) → ⊥
    frame_lost_wrong f unnamed had gone x = gone (((framed x (name_of f) unnamed).facts f refl).0 had)

    pub frame_appears_wrong : (f : Fact) → (Names e (name_of f) → ⊥) → (Tells F f → ⊥) → Tells G f → Frame (Besides e (image F) (image G)) → ⊥
    frame_appears_wrong f unnamed never has x = never (((framed x (name_of f) unnamed).facts f refl).1 has)

    pub frame_issued_wrong : (Names e the_issued → ⊥) → F.issued ≢ G.issued → Frame (Besides e (image F) (image G)) → ⊥
    frame_issued_wrong unnamed d x = d ((framed x the_issued unnamed).issued refl)

    pub frame_sockets_wrong : (Names e the_sockets → ⊥) → F.sockets ≢ G.sockets → Frame (Besides e (image F) (image G)) → ⊥
    frame_sockets_wrong unnamed d x = d ((framed x the_sockets unnamed).sockets refl)

-- what each service that succeeds may name, and nothing else
abbrev pub may_name : ℕ → List ℕ → ℕ → Service → List Name
may_name h p a register_client = the_client a ∷ the_issued ∷ []
may_name h p a deregister_client = the_client h ∷ []
may_name h p a adjust_resource_info = []
may_name h p a request_irq = the_irq (socket_of p) ∷ []
may_name h p a release_irq = the_irq (socket_of p) ∷ []
may_name h p a request_io = the_io (socket_of p) ∷ []
may_name h p a release_io = the_io (socket_of p) ∷ []
may_name h p a request_socket_mask = the_mask h (socket_of p) ∷ []
may_name h p a release_socket_mask = the_mask h (socket_of p) ∷ []

-- AdjustResourceInfo: the level or the range that it was given, where it adds or removes
pub record Adjusts (p : List ℕ) (x : Name) : Type 0 where
  pub action : (action_of p ≡ add) ⊎ (action_of p ≡ remove)
  pub named : ((resource_of p ≡ irq_level) × (x ≡ the_level (level_given p)))
      ⊎ ((resource_of p ≡ io_range) × ((w : Width) × (length p ≡ io_adjust_length w) × (x ≡ the_range (base_given w p))))

named_only : {h : ℕ} {p : List ℕ} {a : ℕ} (v : Service) (x : Name) → NamedBy h p a v x → (x ∈ may_name h p a v) ⊎ ((v ≡ adjust_resource_info) × Adjusts p x)
named_only v x register_client_named = inl (inl refl)
named_only v x register_issued = inl (inr (inl refl))
named_only v x deregister = inl (inl refl)
named_only v x request_mask = inl (inl refl)
named_only v x release_mask = inl (inl refl)
named_only v x (adjust_level e act) = inr (refl, record { action = act; named = inl (e, refl) })
named_only v x (adjust_range w n e act) = inr (refl, record { action = act; named = inr (e, (w, n, refl)) })
named_only v x request_io_named = inl (inl refl)
named_only v x release_io_named = inl (inl refl)
named_only v x request_irq_named = inl (inl refl)
named_only v x release_irq_named = inl (inl refl)

-- a service that succeeds names nothing else
pub unnamed : (v : Service) (h : ℕ) (p : List ℕ) (k : Code) (a : ℕ) (q : List ℕ) (x : Name) → (x ∈ may_name h p a v → ⊥)
    → ((v ≡ adjust_resource_info) × Adjusts p x → ⊥) → Names (call (service_number v) h p k a q) x → ⊥
unnamed v h p k a q x other adjusts m =
    ⊎_elim other adjusts (named_only v x (subst (λ (u : Service). NamedBy h p a u x) (number_injective m.1 v m.2) m.3))

-- so one that changes another fact besides is wrong, whichever it is
module _ (v : Service) (h : ℕ) (p : List ℕ) (a : ℕ) (q : List ℕ) {F G : Facts} (w : WellFormed F) (w' : WellFormed G) (f : Fact)
    (other : name_of f ∈ may_name h p a v → ⊥) (adjusts : (v ≡ adjust_resource_info) × Adjusts p (name_of f) → ⊥) where
  pub success_takes_wrong : Tells F f → (Tells G f → ⊥) → Frame (Besides (call (service_number v) h p Success a q) (image F) (image G)) → ⊥
  success_takes_wrong = frame_lost_wrong (call (service_number v) h p Success a q) w w' f (unnamed v h p Success a q (name_of f) other adjusts)

  pub success_adds_wrong : (Tells F f → ⊥) → Tells G f → Frame (Besides (call (service_number v) h p Success a q) (image F) (image G)) → ⊥
  success_adds_wrong = frame_appears_wrong (call (service_number v) h p Success a q) w w' f (unnamed v h p Success a q (name_of f) other adjusts)

-- a refusal, First or Next, a question, card in and card out (of another name, or refused), a boot list, a refused cs_fresh
module _ {F G : Facts} (w : WellFormed F) (w' : WellFormed G) (f : Fact) (had : Tells F f) (gone : Tells G f → ⊥) where
  pub refusal_takes_wrong : (n h : ℕ) (p : List ℕ) (k : Code) (a : ℕ) (q : List ℕ) → k ≢ Success → Frame (Besides (call n h p k a q) (image F) (image G)) → ⊥
  refusal_takes_wrong n h p k a q refused = frame_lost_wrong (call n h p k a q) w w' f (λ m. refused m.0) had gone

  pub showing_takes_wrong : (h : ℕ) (p : List ℕ) (k : Code) (a : ℕ) (q : List ℕ) → (action_of p ≡ first) ⊎ (action_of p ≡ next)
      → Frame (Besides (call (service_number adjust_resource_info) h p k a q) (image F) (image G)) → ⊥
  showing_takes_wrong h p k a q shows =
      frame_lost_wrong (call (service_number adjust_resource_info) h p k a q) w w' f (showing_names_none h p k a q shows (name_of f)) had gone

  pub question_takes_wrong : (l c : ℕ) (k : Code) → Frame (Besides (sharers l k c) (image F) (image G)) → ⊥
  question_takes_wrong l c k = frame_lost_wrong (sharers l k c) w w' f (λ m. m) had gone

  pub card_in_takes_wrong : (s : ℕ) (k : Code) → (k ≢ Success) ⊎ (name_of f ≢ the_card s) → Frame (Besides (card_in s k) (image F) (image G)) → ⊥
  card_in_takes_wrong s k other = frame_lost_wrong (card_in s k) w w' f (λ m. ⊎_elim (λ d. d m.0) (λ d. d m.1) other) had gone

  pub card_out_takes_wrong : (s : ℕ) (k : Code) → (k ≢ Success) ⊎ (name_of f ≢ the_card s) → Frame (Besides (card_out s k) (image F) (image G)) → ⊥
  card_out_takes_wrong s k other = frame_lost_wrong (card_out s k) w w' f (λ m. ⊎_elim (λ d. d m.0) (λ d. d m.1) other) had gone

  pub boot_takes_wrong : (r : List ℕ) (k : Code) (i : ℕ)
      → ((x : Record) → x ∈ records_in i r → (g : Fact) → Recorded x g → name_of g ≢ name_of f)
      → Frame (Besides (boot r k i) (image F) (image G)) → ⊥
  boot_takes_wrong r k i other = frame_lost_wrong (boot r k i) w w' f (λ m. other m.0 m.1 m.2 m.3 m.4) had gone

  pub fresh_takes_wrong : (n : ℕ) (k : Code) → k ≢ Success → Frame (Besides (make_fresh n k) (image F) (image G)) → ⊥
  fresh_takes_wrong n k refused = frame_lost_wrong (make_fresh n k) w w' f refused had gone

-- CardOutKeeps: card out, at any socket, takes another fact away or adds one
module _ (s : ℕ) (k : Code) {F G : Facts} (w : WellFormed F) (w' : WellFormed G) (f : Fact) (other : f ≢ card s) where
  kept : CardOutKeeps (Besides (card_out s k) (image F) (image G)) → Tells F f ↔ Tells G f
  kept x =
      between w w' (λ (H I : Facts). (g : Fact) → g ≢ card s → Tells H g ↔ Tells I g)
      (x s k (image F) (image G) (accepted w) (besides (card_out s k) (image F) (image G))) f other

  pub card_out_loses_wrong : Tells F f → (Tells G f → ⊥) → CardOutKeeps (Besides (card_out s k) (image F) (image G)) → ⊥
  card_out_loses_wrong had gone x = gone ((kept x).0 had)

  pub card_out_adds_wrong : (Tells F f → ⊥) → Tells G f → CardOutKeeps (Besides (card_out s k) (image F) (image G)) → ⊥
  card_out_adds_wrong never has x = never ((kept x).1 has)

-- NeverAgain: whatever packets register, a handle is answered again, or 0
abbrev registers_by : ℕ → List ℕ → ℕ → List ℕ → Event
registers_by h p a q = call (service_number register_client) h p Success a q

registers_as : (h : ℕ) (p : List ℕ) (a : ℕ) (q : List ℕ) → Registers (registers_by h p a q) a
registers_as h p a q = (client_attributes p, client_events p, (refl, register_client, refl, client_made))

pub handle_again_wrong : (n : ℕ) (earlier later : List Event) (h h' : ℕ) (p p' : List ℕ) (a : ℕ) (q q' b b' : List ℕ)
    → FromFresh Ours n (earlier ++ (registers_by h p a q ∷ later)) b → NeverAgain (Besides (registers_by h' p' a q') b b') → ⊥
handle_again_wrong n earlier later h h' p p' a q q' b b' from x =
    let again = registers_by h' p' a q' in
    (x n earlier (later ++ (again ∷ [])) (registers_by h p a q) a b'
    (subst (λ (es : List Event). FromFresh (Besides again b b') n es b') (append_assoc earlier (registers_by h p a q ∷ later) (again ∷ []))
    (then_once n (earlier ++ (registers_by h p a q ∷ later)) b from again tt b'))
    (registers_as h p a q)).1 again (in_right again later (again ∷ []) (inl refl)) (registers_as h' p' a q')

pub handle_zero_wrong : (n : ℕ) (es : List Event) (h : ℕ) (p q b b' : List ℕ) → FromFresh Ours n es b → NeverAgain (Besides (registers_by h p 0 q) b b') → ⊥
handle_zero_wrong n es h p q b b' from x =
    (x n es [] (registers_by h p 0 q) 0 b' (then_once n es b from (registers_by h p 0 q) tt b') (registers_as h p 0 q)).0 refl

-- OneGrant, PortsApart, LevelsApart: after any run, an event makes a grant beside one that stands
module _ (n : ℕ) (es : List Event) (b : List ℕ) (from : FromFresh Ours n es b) (e : Event) (on : GoesOn e) (b' : List ℕ) where
  ran : FromFresh (Besides e b b') n (es ++ (e ∷ [])) b'
  ran = then_once n es b from e on b'

  -- the fact f stands, and the event doesn't give it back, but makes f'
  pub record Beside (f f' : Fact) : Type 0 where
    pub stood : Stands es f
    pub kept : GivesBack e f → ⊥
    pub made : Makes e f'

  old_stands : {f f' : Fact} → Beside f f' → Stands (es ++ (e ∷ [])) f
  old_stands {f} x = last_stands f es e (inr (x.stood, x.kept))

  new_stands : {f f' : Fact} → Beside f f' → Stands (es ++ (e ∷ [])) f'
  new_stands {f} {f'} x = last_stands f' es e (inl x.made)

  -- another one on the same socket
  pub two_ios_wrong : (s : ℕ) (g g' : IoGrant) → Beside (io s g) (io s g') → g ≢ g' → OneGrant (Besides e b b') → ⊥
  two_ios_wrong s g g' beside d x = d (x.io_one n (es ++ (e ∷ [])) b' s g g' ran (old_stands beside) (new_stands beside))

  pub two_irqs_wrong : (s : ℕ) (g g' : IrqGrant) → Beside (irq s g) (irq s g') → g ≢ g' → OneGrant (Besides e b b') → ⊥
  two_irqs_wrong s g g' beside d x = d (x.irq_one n (es ++ (e ∷ [])) b' s g g' ran (old_stands beside) (new_stands beside))

  -- one of ports that meet, which the two don't both share
  pub ports_unshared_wrong : (s s' : ℕ) (g g' : IoGrant) → Beside (io s g) (io s' g') → io s g ≢ io s' g' → Meet g.ports g'.ports
      → ((g.shared ≡ true) × (g'.shared ≡ true) → ⊥) → PortsApart (Besides e b b') → ⊥
  ports_unshared_wrong s s' g g' beside d meet unshared x =
      unshared (x n (es ++ (e ∷ [])) b' s s' g g' ran (old_stands beside) (new_stands beside) d meet)

  -- one of the same level, in a manner that doesn't go with the other's
  pub level_unshared_wrong : (s s' : ℕ) (g g' : IrqGrant) → Beside (irq s g) (irq s' g') → irq s g ≢ irq s' g' → g.level ≡ g'.level
      → (Together g.manner g'.manner → ⊥) → LevelsApart (Besides e b b') → ⊥
  level_unshared_wrong s s' g g' beside d same apart x =
      apart (x n (es ++ (e ∷ [])) b' s s' g g' ran (old_stands beside) (new_stands beside) d same)

-- SharersCounted: none counted where one shares, one counted twice, more than eight
module _ (n : ℕ) (es : List Event) (b : List ℕ) (from : FromFresh Ours n es b) (l : ℕ) where
  abbrev Sharer : ℕ → Type 0
  Sharer s = (g : IrqGrant) × Stands es (irq s g) × (g.level ≡ l)

  asked : (c : ℕ) → SharersCounted (Besides (sharers l Success c) b b) → Number Sharer c × (c < most_sockets + 1)
  asked c x =
      let y = x n es b b l c
      (record { old = from.old; start = from.start; made = inl from.made; runs = runs_too (sharers l Success c) b b from.start es b from.runs })
      (besides (sharers l Success c) b b) in
      (y.0, omega (arith, y.1))

  pub none_counted_wrong : (s : ℕ) → Sharer s → SharersCounted (Besides (sharers l Success 0) b b) → ⊥
  none_counted_wrong s shares x = let y = (asked 0 x).0 in empty y.those y.count ((y.each s).1 shares)
    where
      empty : (xs : List ℕ) → length xs ≡ 0 → s ∈ xs → ⊥
      empty [] e m = m
      empty (y ∷ xs) e m = omega (arith, e)

  pub counted_twice_wrong : (s : ℕ) → ((t : ℕ) → Sharer t → t ≡ s) → SharersCounted (Besides (sharers l Success 2) b b) → ⊥
  counted_twice_wrong s only x = let y = (asked 2 x).0 in twice y.those (λ t m. only t ((y.each t).0 m)) y.once y.count
    where
      twice : (xs : List ℕ) → ((t : ℕ) → t ∈ xs → t ≡ s) → Once xs → length xs ≡ 2 → ⊥
      twice [] all once e = omega (arith, e)
      twice (t ∷ []) all once e = omega (arith, e)
      twice (t ∷ u ∷ xs) all once e = once.0 (inl (all t (inl refl) ∙ sym (all u (inr (inl refl)))))

  pub too_many_wrong : (c : ℕ) → most_sockets < c → SharersCounted (Besides (sharers l Success c) b b) → ⊥
  too_many_wrong c most x = omega (arith, most, (asked c x).1)
