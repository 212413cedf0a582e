-- A well-formed set with other cards, clients, levels, ranges or grants is well formed, if what is new fits. Assumes nothing.
use Rattle.facts.proofs.Words.{◌≡◌, refl, ap, sym, ◌∙◌, subst, subst⁻¹, ⊎_elim, ◌≢◌, List, Bool, true, false≢true, Option, some}
use Rattle.facts.proofs.Words.{none-ne-some, ℕ, ◌+◌, ◌≤◌, ◌<◌, arith, length, WellFormed}
use Rattle.facts.specs.declared.Ports.{Ports}
use Rattle.facts.specs.{Outcome, Check, Passed, Decided, Kept, Ruled, Leaves, Facts, Client, Level, Range, IoGrant, IrqGrant, fresh, ◌∈◌}
use Rattle.facts.specs.{Within, Managed, AllManaged, Answers, AnswersManaged, ClientFits, IoFits, IrqFits, IoCompany, IrqCompany, Live, Rising}
use Rattle.facts.specs.{Apart, with_card, with_level, with_ranges, with_irq, with_io, all_levels, all_ports, most_clients, most_issued, most_ranges}
use Rattle.facts.specs.{most_sockets}
use Rattle.facts.proofs.Company.{meet_symmetric, together_symmetric}
use Rattle.facts.proofs.Sets.{put_all, put_pairs}

pub fresh_formed : (n : ℕ) → 1 ≤ n → n ≤ most_sockets → WellFormed (fresh n)
fresh_formed n least most =
    record {
      sockets_least = least;
      sockets_most = most;
      cards = λ s e. absurd (false≢true e);
      issued = omega arith;
      clients_most = omega arith;
      handles = tt;
      clients = λ c m. absurd m;
      levels = λ l e. absurd (false≢true e);
      reserved = λ l e. e;
      ranges_most = omega arith;
      apart = tt;
      ranges = λ r m. absurd m;
      ios = λ s g e. absurd (none-ne-some g e);
      irqs = λ s g e. absurd (none-ne-some g e);
      io_company = λ s t g g' d e e'. absurd (none-ne-some g e);
      irq_company = λ s t g g' d e e'. absurd (none-ne-some g e);
    }

-- what fits one set fits another with as many sockets, in which its client is live and its resource is managed
module _ (F G : Facts) where
  pub live_in : (h : ℕ) → ((c : Client) → c ∈ F.clients → c.handle ≡ h → c ∈ G.clients) → Live F h → Live G h
  live_in h f l = record { client = l.client; listed = f l.client l.listed l.handle; handle = l.handle }

  pub managed_in_lem : ((r : Range) → r ∈ F.ranges → r ∈ G.ranges) → (p : ℕ) → Managed F p → Managed G p
  managed_in_lem f p m = record { range = m.range; listed = f m.range m.listed; has = m.has }

  module _ (sockets : G.sockets ≡ F.sockets) where
    io_fits : (s : ℕ) (g : IoGrant) → Live G g.client → AllManaged G g.ports.base g.ports.count → AnswersManaged G g.ports
        → IoFits F s g
        → IoFits G s g
    io_fits s g live managed answers f =
        record {
          client = live;
          socket = omega (arith, sockets, f.socket);
          base = f.base;
          line = f.line;
          lines = f.lines;
          port = f.port;
          asked = f.asked;
          decoded = f.decoded;
          managed = managed;
          answers = answers;
        }

    -- where all ranges stay
    io_stays : (s : ℕ) (g : IoGrant) → Live G g.client → ((r : Range) → r ∈ F.ranges → r ∈ G.ranges) → IoFits F s g → IoFits G s g
    io_stays s g live kept f = io_fits s g live (λ p h. managed_in_lem kept p (f.managed p h)) (λ p h. managed_in_lem kept p (f.answers p h)) f

    pub irq_fits : (s : ℕ) (g : IrqGrant) → Live G g.client → (G.level g.level).managed ≡ true → IrqFits F s g → IrqFits G s g
    irq_fits s g live managed f = record { client = live; socket = omega (arith, sockets, f.socket); managed = managed }

    pub client_fits : (c : Client) → F.issued ≤ G.issued → ClientFits F c → ClientFits G c
    client_fits c more f =
        record {
          issued = omega (arith, more, f.issued);
          attributes = f.attributes;
          events = f.events;
          mask = λ s m e. let x = f.mask s m e in (omega (arith, sockets, x.0), x.1);
        }

-- no managed port is past FFFF
pub managed_below : (F : Facts) → WellFormed F → (p : ℕ) → Managed F p → p < all_ports
managed_below F w p m = omega (arith, m.has.below, w.ranges m.range m.listed)

-- a card answers at its own ports
pub own_answers : (a : Ports) (p : ℕ) → p < all_ports → Within p a.base a.count → Answers a p
own_answers a p l h = record { below = l; own = p; own_in = h; equal = refl }

-- the company that two grants keep doesn't depend on their order
pub io_turned : (a b : IoGrant) → IoCompany a b → IoCompany b a
io_turned a b c m = let s = c (meet_symmetric b.ports a.ports m) in (s.1, s.0)

pub irq_turned : (a b : IrqGrant) → IrqCompany a b → IrqCompany b a
irq_turned a b c e = together_symmetric a.manner b.manner (c (sym e))

-- what is well formed of the clients, of the levels, of the ranges, and of the grants of each kind
abbrev ClientsFormed : Facts → Type 0
ClientsFormed G =
    (G.issued ≤ most_issued) × (length G.clients ≤ most_clients) × Rising 0 G.clients × ((c : Client) → c ∈ G.clients → ClientFits G c)

abbrev LevelsFormed : Facts → Type 0
LevelsFormed G = ((l : ℕ) → (G.level l).managed ≡ true → l < all_levels) × ((l : ℕ) → (G.level l).reserved ≡ true → (G.level l).managed ≡ true)

abbrev RangesFormed : Facts → Type 0
RangesFormed G = (length G.ranges ≤ most_ranges) × Apart 0 G.ranges × ((r : Range) → r ∈ G.ranges → r.base + r.count ≤ all_ports)

abbrev GrantsFormed : {A : Type 0} → (ℕ → Option A) → (ℕ → A → Type 0) → (A → A → Type 0) → Type 0
GrantsFormed {A} grants Fits Company =
    ((s : ℕ) (g : A) → grants s ≡ some g → Fits s g)
    × ((s t : ℕ) (g g' : A) → s ≢ t → grants s ≡ some g → grants t ≡ some g' → Company g g')

-- other clients, and so many handles issued
abbrev pub listing : Facts → ℕ → List Client → Facts
listing F n cs =
    record { sockets = F.sockets; card = F.card; issued = n; clients = cs; level = F.level; ranges = F.ranges; io = F.io; irq = F.irq }

module _ (F : Facts) (w : WellFormed F) where
  -- a set with as many sockets is well formed if each part is
  module _ (G : Facts) (sockets : G.sockets ≡ F.sockets) where
    by_parts : ((s : ℕ) → G.card s ≡ true → s < G.sockets) → ClientsFormed G → LevelsFormed G → RangesFormed G
        → GrantsFormed G.io (IoFits G) IoCompany
        → GrantsFormed G.irq (IrqFits G) IrqCompany
        → WellFormed G
    by_parts cards clients levels ranges ios irqs =
        record {
          sockets_least = omega (arith, sockets, w.sockets_least);
          sockets_most = omega (arith, sockets, w.sockets_most);
          cards = cards;
          issued = clients.0;
          clients_most = clients.1;
          handles = clients.2;
          clients = clients.3;
          levels = levels.0;
          reserved = levels.1;
          ranges_most = ranges.0;
          apart = ranges.1;
          ranges = ranges.2;
          ios = ios.0;
          irqs = irqs.0;
          io_company = ios.1;
          irq_company = irqs.1;
        }

    -- what fitted stays where the clients are the same
    module _ (clients : G.clients ≡ F.clients) where
      still_lives : {h : ℕ} → Live F h → Live G h
      still_lives {h} = live_in F G h (λ c m q. subst⁻¹ (λ (cs : List Client). c ∈ cs) clients m)

      clients_kept : G.issued ≡ F.issued → ClientsFormed G
      clients_kept issued = (
        omega (arith, issued, w.issued),
        omega (arith, ap length clients, w.clients_most),
        subst⁻¹ (Rising 0) clients w.handles,
        λ c m. client_fits F G sockets c (omega (arith, issued)) (w.clients c (subst (λ (cs : List Client). c ∈ cs) clients m)),
      )

      still_io : G.ranges ≡ F.ranges → (t : ℕ) (g : IoGrant) → IoFits F t g → IoFits G t g
      still_io ranges t g f =
          io_stays F G sockets t g (still_lives f.client) (λ r m. subst⁻¹ (λ (rs : List Range). r ∈ rs) ranges m) f

      still_irq : G.level ≡ F.level → (t : ℕ) (g : IrqGrant) → IrqFits F t g → IrqFits G t g
      still_irq level t g f = irq_fits F G sockets t g (still_lives f.client) (ap (λ (v : ℕ → Level). (v g.level).managed) level ∙ f.managed) f

  -- levels and ranges that are kept are well formed
  levels_kept : LevelsFormed F
  levels_kept = (w.levels, w.reserved)

  ranges_kept : RangesFormed F
  ranges_kept = (w.ranges_most, w.apart, w.ranges)

  pub card_formed : (s : ℕ) (v : Bool) → s < F.sockets → WellFormed (with_card F s v)
  card_formed s v l =
      let G = with_card F s v in
      by_parts G refl (put_all (λ (t : ℕ) (x : Bool). x ≡ true → t < F.sockets) F.card s v (λ e. l) (λ t d. w.cards t))
      (clients_kept G refl refl refl) levels_kept ranges_kept ((λ t g e. still_io G refl refl refl t g (w.ios t g e)), w.io_company)
      ((λ t g e. still_irq G refl refl refl t g (w.irqs t g e)), w.irq_company)

  -- other clients: each fits, and those of the grants are among them
  module _ (n : ℕ) (cs : List Client) where
    pub clients_formed : n ≤ most_issued → length cs ≤ most_clients → Rising 0 cs → ((c : Client) → c ∈ cs → ClientFits (listing F n cs) c)
        → ((s : ℕ) (g : IoGrant) → F.io s ≡ some g → Live (listing F n cs) g.client)
        → ((s : ℕ) (g : IrqGrant) → F.irq s ≡ some g → Live (listing F n cs) g.client)
        → WellFormed (listing F n cs)
    clients_formed issued most rising fit io-live irq-live =
        let G = listing F n cs in
        by_parts G refl w.cards (issued, most, rising, fit) levels_kept ranges_kept
        ((λ t g e. io_stays F G refl t g (io-live t g e) (λ r m. m) (w.ios t g e)), w.io_company)
        ((λ t g e. let f = w.irqs t g e in irq_fits F G refl t g (irq-live t g e) f.managed f), w.irq_company)

  -- another level: below the last, reserved only if it is managed, and managed if a grant holds it
  pub level_formed : (l : ℕ) (v : Level) → l < all_levels → (v.reserved ≡ true → v.managed ≡ true)
      → ((s : ℕ) (g : IrqGrant) → F.irq s ≡ some g → g.level ≡ l → v.managed ≡ true)
      → WellFormed (with_level F l v)
  level_formed l v below reserved held =
      let G = with_level F l v in
      by_parts G refl w.cards (clients_kept G refl refl refl) (
        put_all (λ (k : ℕ) (x : Level). x.managed ≡ true → k < all_levels) F.level l v (λ e. below) (λ k d. w.levels k),
        put_all (λ (k : ℕ) (x : Level). x.reserved ≡ true → x.managed ≡ true) F.level l v reserved (λ k d. w.reserved k),
      ) ranges_kept ((λ t g e. still_io G refl refl refl t g (w.ios t g e)), w.io_company) (
        (λ t g e. let f = w.irqs t g e in irq_fits F G refl t g (still_lives G refl refl f.client) (managed t g e f.managed) f),
        w.irq_company,
      )
    where
      managed : (t : ℕ) (g : IrqGrant) → F.irq t ≡ some g → (F.level g.level).managed ≡ true → ((with_level F l v).level g.level).managed ≡ true
      managed t g e m =
          put_all (λ (k : ℕ) (x : Level). g.level ≡ k → x.managed ≡ true) F.level l v (held t g e)
          (λ k d q. subst (λ (i : ℕ). (F.level i).managed ≡ true) q m) g.level refl

  -- other ranges: in order, none past FFFF, and wherever a card answers that is granted ports, the port is still managed
  pub ranges_formed : (rs : List Range) → length rs ≤ most_ranges → Apart 0 rs → ((r : Range) → r ∈ rs → r.base + r.count ≤ all_ports)
      → ((s : ℕ) (g : IoGrant) → F.io s ≡ some g → (p : ℕ) → Answers g.ports p → Managed F p → Managed (with_ranges F rs) p)
      → WellFormed (with_ranges F rs)
  ranges_formed rs most apart within stays =
      let G = with_ranges F rs in
      by_parts G refl w.cards (clients_kept G refl refl refl) levels_kept (most, apart, within) (
        (λ t g e. let f = w.ios t g e in
            io_fits F G refl t g (still_lives G refl refl f.client)
            (λ p h. let m = f.managed p h in stays t g e p (own_answers g.ports p (managed_below F w p m) h) m)
            (λ p a. stays t g e p a (f.answers p a)) f),
        w.io_company,
      ) ((λ t g e. still_irq G refl refl refl t g (w.irqs t g e)), w.irq_company)

  -- another I/O grant on a socket, or none: it fits, and keeps company with those on other sockets
  pub io_formed : (s : ℕ) (o : Option IoGrant) → ((g : IoGrant) → o ≡ some g → IoFits F s g)
      → ((t : ℕ) (g g' : IoGrant) → t ≢ s → o ≡ some g → F.io t ≡ some g' → IoCompany g g')
      → WellFormed (with_io F s o)
  io_formed s o fits company =
      let G = with_io F s o in
      by_parts G refl w.cards (clients_kept G refl refl refl) levels_kept ranges_kept (
        put_all (λ (t : ℕ) (x : Option IoGrant). (g : IoGrant) → x ≡ some g → IoFits G t g) F.io s o
            (λ g e. still_io G refl refl refl s g (fits g e)) (λ t d g e. still_io G refl refl refl t g (w.ios t g e)),
        put_pairs IoCompany io_turned F.io s o w.io_company company,
      ) ((λ t g e. still_irq G refl refl refl t g (w.irqs t g e)), w.irq_company)

  -- the same for an IRQ grant
  pub irq_formed : (s : ℕ) (o : Option IrqGrant) → ((g : IrqGrant) → o ≡ some g → IrqFits F s g)
      → ((t : ℕ) (g g' : IrqGrant) → t ≢ s → o ≡ some g → F.irq t ≡ some g' → IrqCompany g g')
      → WellFormed (with_irq F s o)
  irq_formed s o fits company =
      let G = with_irq F s o in
      by_parts G refl w.cards (clients_kept G refl refl refl) levels_kept ranges_kept
      ((λ t g e. still_io G refl refl refl t g (w.ios t g e)), w.io_company) (
        put_all (λ (t : ℕ) (x : Option IrqGrant). (g : IrqGrant) → x ≡ some g → IrqFits G t g) F.irq s o
            (λ g e. still_irq G refl refl refl s g (fits g e)) (λ t d g e. still_irq G refl refl refl t g (w.irqs t g e)),
        put_pairs IrqCompany irq_turned F.irq s o w.irq_company company,
      )

-- a refusal leaves a well-formed set well formed, and so does what is done, if it does where the checks pass
module _ {F : Facts} {p : List ℕ} {o : Outcome} (w : WellFormed F) (cs : List Check) where
  pub ruled_stays : {D : Type 0} → (Passed cs → D → WellFormed o.facts) → Decided cs o.code (Kept F p o) D → WellFormed o.facts
  ruled_stays done = ⊎_elim (λ r. subst⁻¹ WellFormed r.1.facts w) (λ r. done r.0 r.1.1)

  pub leaves_stays : {h : ℕ} {q : List ℕ} {G : Facts} → (Passed cs → WellFormed G) → Ruled cs (Leaves h q G) F p o → WellFormed o.facts
  leaves_stays formed = ruled_stays (λ passed left. subst⁻¹ WellFormed left.facts (formed passed))
