-- The facts read off sound bytes are well formed. Assumes nothing.
use Rattle.facts.proofs.Words.{◌≡◌, refl, ap, sym, ◌∙◌, subst, subst⁻¹, ⊎_elim, by_cases, List, Bool, true, false, false≢true, ℕ, suc, ◌+◌, ◌-◌, ◌≤◌}
use Rattle.facts.proofs.Words.{◌<◌, dec_lt, arith, eqb-true, eq-eqb, WellFormed, some, rules}
use Rattle.facts.specs.{Level, Range, byte, word, Bytes, ClientFits, IoFits, IrqFits, EventsAllowed, IoCompany, IrqCompany, all_levels, most_clients}
use Rattle.facts.specs.{all_ports, most_sockets}
use Rattle.facts.proofs.Formed.{io_turned, irq_turned}
use Rattle.layout.specs.{sockets_in, clients_in, ranges_in, marked, mask_of, mask_place, level_place, io_place_lem, irq_place_lem, io_bytes, irq_bytes, client_in}
use Rattle.layout.specs.{range_in, level_in, io_in, irq_in, io_here, irq_here, facts_in, IoSound, IrqSound, cards_at, io_count_at, io_size, ios_at}
use Rattle.layout.specs.{irq_level_at, irq_size, irqs_at, level_reserved_at, seat_room}
use Rattle.layout.specs.Sound.{SoundOf}
use Rattle.layout.proofs.Lists.{below_in, below_past, found, in-up_to, up_to-length, rising-up_to, apart-up_to}
use Rattle.layout.proofs.Grants.{nonzero, grant_there, grants_company}
use Rattle.layout.proofs.Said.{live_of, managed_of}

-- with no more clients than a set may have
module _ {n size : ℕ} (few : n ≤ most_clients) (b : List ℕ) (bytes : Bytes b) (s : SoundOf n size b) where
  card_formed : (t : ℕ) → (facts_in b).card t ≡ true → t < sockets_in b
  unfolding facts_in
  card_formed t e =
      let cards : ℕ → Bool = λ t. marked (byte b (cards_at + t)) in
      by_cases (dec_lt t most_sockets)
      (λ l. (s.cards t l).socket (eqb-true (byte b (cards_at + t)) 1 (sym (below_in most_sockets false cards t l) ∙ e)))
      (λ l. absurd (false≢true (sym (below_past most_sockets false cards t (omega arith)) ∙ e)))

  mask_formed : (i t m : ℕ) → i < clients_in b → (client_in b i).mask t ≡ some m → (t < sockets_in b) × EventsAllowed m
  unfolding client_in
  mask_formed i t m l e =
      let f = found seat_room (λ t. mask_of (word b (mask_place i t))) t m e in
      let used = nonzero (word b (mask_place i t)) (word b (mask_place i t) - 1) m f.1 in
      ⊎_elim (λ z. absurd (omega (arith, z, used.0))) (λ u. (u.1, omega (arith, u.0, used.0, used.1))) (s.masks i l t f.0)

  client_formed : (i : ℕ) → i < clients_in b → ClientFits (facts_in b) (client_in b i)
  unfolding facts_in client_in
  client_formed i l = let sound = s.clients i l in search (rules, mask_formed)

  -- a level below the bound is what its record says, and one past it is not managed
  level_below : (l : ℕ) → l < all_levels → (facts_in b).level l ≡ level_in b l
  unfolding facts_in
  level_below l h = below_in all_levels (record { managed = false; reserved = false }) (level_in b) l h

  level_there : (mark : Level → Bool) → mark (record { managed = false; reserved = false }) ≡ false → (l : ℕ) → mark ((facts_in b).level l) ≡ true
      → l < all_levels
  unfolding facts_in
  level_there mark not l e =
      by_cases (dec_lt l all_levels) (λ h. h)
      (λ h. let past = below_past all_levels (record { managed = false; reserved = false }) (level_in b) l (omega arith) in
      absurd (false≢true (sym not ∙ sym (ap mark past) ∙ e)))

  level_managed : (l : ℕ) → l < all_levels → byte b (level_place l) ≡ 1 → ((facts_in b).level l).managed ≡ true
  unfolding level_in
  level_managed l h e = ap (λ (v : Level). v.managed) (level_below l h) ∙ eq-eqb (byte b (level_place l)) 1 e

  level_reserved : (l : ℕ) → ((facts_in b).level l).reserved ≡ true → ((facts_in b).level l).managed ≡ true
  unfolding level_in
  level_reserved l e =
      let h = level_there (λ (v : Level). v.reserved) refl l e in
      let r = eqb-true (byte b (level_place l + level_reserved_at)) 1 (sym (ap (λ (v : Level). v.reserved) (level_below l h)) ∙ e) in
      level_managed l h (omega (arith, r, (s.levels l h).managed, (s.levels l h).reserved))

  io_fits : (t : ℕ) → IoSound b t → IoFits (facts_in b) t (io_in b t)
  unfolding facts_in io_in
  io_fits t u = let low = bytes (io_place_lem t + io_count_at) in search (rules, live_of, managed_of, u.managed, u.answers)

  irq_fits : (t : ℕ) → IrqSound b t → IrqFits (facts_in b) t (irq_in b t)
  unfolding facts_in irq_in
  irq_fits t u = let managed = level_managed (byte b (irq_place_lem t + irq_level_at)) u.level u.managed in search (rules, live_of)

  pub formed : WellFormed (facts_in b)
  unfolding facts_in client_in range_in io_here irq_here
  formed =
      record {
        sockets_least = s.sockets_least;
        sockets_most = s.sockets_most;
        cards = card_formed;
        issued = omega (arith, bytes 4, bytes 5);
        clients_most = omega (arith, up_to-length (clients_in b) (client_in b), s.clients_most);
        handles = rising-up_to (clients_in b) (client_in b) (λ l. (s.clients 0 l).over) (λ i l. (s.clients (suc i) l).over);
        clients = λ c m. let r = in-up_to c (clients_in b) (client_in b) m in subst⁻¹ (ClientFits (facts_in b)) r.2 (client_formed r.0 r.1);
        levels = level_there (λ (v : Level). v.managed) refl;
        reserved = level_reserved;
        ranges_most = omega (arith, up_to-length (ranges_in b) (range_in b), s.ranges_most);
        apart = apart-up_to (ranges_in b) (range_in b) (λ i l. (s.ranges i l).port) (λ i l. (s.ranges (suc i) l).from);
        ranges = λ r m. let i = in-up_to r (ranges_in b) (range_in b) m in
            subst⁻¹ (λ (x : Range). x.base + x.count ≤ all_ports) i.2 (s.ranges i.0 i.1).within;
        ios = λ t g e. let i = grant_there io_bytes ios_at io_size (omega arith) refl b (io_in b) (IoSound b) s.ios t g e in
            subst (IoFits (facts_in b) t) i.3 (io_fits t i.2);
        irqs = λ t g e. let i = grant_there irq_bytes irqs_at irq_size (omega arith) refl b (irq_in b) (IrqSound b) s.irqs t g e in
            subst (IrqFits (facts_in b) t) i.3 (irq_fits t i.2);
        io_company =
            grants_company io_bytes ios_at io_size (omega arith) refl b (io_in b) (IoSound b) IoCompany io_turned s.ios s.io_company;
        irq_company =
            grants_company irq_bytes irqs_at irq_size (omega arith) refl b (irq_in b) (IrqSound b) IrqCompany irq_turned s.irqs s.irq_company;
      }
