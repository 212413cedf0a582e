-- Bytes that show the facts read off them are sound where these are well formed. Assumes nothing.
use Rattle.facts.proofs.Words.{◌≡◌, refl, ap, sym, ◌∙◌, subst, inl, inr, by_cases, List, Bool, true, false, Option, none, some, ℕ, zero, suc, ◌+◌}
use Rattle.facts.proofs.Words.{◌-◌, ◌≤◌, ◌<◌, dec_lt, ℕ_discrete, arith, length, get_or, get_elem?, WellFormed, ◌*◌, rules}
use Rattle.layout.proofs.Image
use Rattle.facts.specs.{Manner, Exclusive, TimeMultiplexed, DynamicLevel, DynamicPulse, Client, Range, IoGrant, IrqGrant, byte, word, all_levels}
use Rattle.facts.specs.{most_ranges, most_sockets}
use Rattle.facts.proofs.{rising_over, apart_port}
use Rattle.layout.specs.{mark, handle_bytes, attributes_bytes, events_bytes, masks_bytes, range_bytes, level_bytes, io_bytes, irq_bytes, manner_byte_lem}
use Rattle.layout.specs.{clients_in, ranges_in, masks_place, mask_place, range_place, level_place, io_place_lem, handle_in, client_in, range_in, io_in, irq_in}
use Rattle.layout.specs.{io_here, irq_here, facts_in, mask_of, Zero, CardSound, LevelSound, ClientSound, ClientsEnd, RangeSound, MaskSound, IoUsed}
use Rattle.layout.specs.{IrqUsed, IoSound, IrqSound, handle_before, end_before_lem, range_base, client_room, handle_room, seat_room, ranges_at, range_size}
use Rattle.layout.specs.{handles_at, handle_size, attributes_at, attributes_size, events_at, events_size, ios_at, io_size, io_spare_at, irqs_at, irq_size}
use Rattle.layout.specs.{level_size, masks_at, masks_size, rest_at, io_shared_at, irq_manner_at, irq_place_lem}
use Rattle.layout.specs.Sound.{SoundOf}
use Rattle.layout.proofs.Parts.{below_at, zeros}
use Rattle.layout.proofs.Lists.{below_in, up_to-in, at-up_to, up_to-length, rising_before, apart_next}
use Rattle.layout.proofs.Records.{unused}
use Rattle.layout.proofs.Grants.{positive_test, grants_placed}
use Rattle.layout.proofs.Said.{live_in, managed_in_lem, io_here_lem, irq_here_lem}
use Rattle.layout.proofs.Shows.{Shows, card_at, levels_are, ranges_are, handles_are, attributes_are, events_are, ios_are, irqs_are, spare_is}
use Rattle.layout.proofs.Shows.{masks_are, rest_is}

mark_most : (t : Bool) → mark t ≤ 1
mark_most true = omega arith
mark_most false = omega arith

mark_true : (t : Bool) → mark t ≡ 1 → t ≡ true
mark_true true e = refl
mark_true false e = absurd (omega (arith, e))

mark_below : (t u : Bool) → (t ≡ true → u ≡ true) → mark t ≤ mark u
mark_below true u h = subst (λ (v : Bool). 1 ≤ mark v) (sym (h refl)) (omega arith)
mark_below false u h = omega arith

pub manner_most : (m : Manner) → manner_byte_lem m ≤ 3
manner_most Exclusive = omega arith
manner_most TimeMultiplexed = omega arith
manner_most DynamicLevel = omega arith
manner_most DynamicPulse = omega arith

module _ {n size : ℕ} (room : n ≤ client_room) {b : List ℕ} (few : length (facts_in b).clients ≤ n) (w : WellFormed (facts_in b))
    (v : Shows n size (facts_in b) b) where
  card_sound : (t : ℕ) → t < most_sockets → CardSound b t
  unfolding facts_in
  card_sound t l =
      let e = card_at v t l in
      record { mark = omega (arith, e, mark_most ((facts_in b).card t)); socket = λ h. w.cards t (mark_true ((facts_in b).card t) (sym e ∙ h)) }

  managed_byte : (l : ℕ) → l < all_levels → byte b (level_place l) ≡ mark ((facts_in b).level l).managed
  managed_byte l h = Image.first_byte b (level_place l) level_size (level_bytes ((facts_in b).level l)) (levels_are v l h) (omega arith)

  level_sound : (l : ℕ) → l < all_levels → LevelSound b l
  level_sound l h =
      let level = (facts_in b).level l in
      let reserved = mark_below level.reserved level.managed (w.reserved l) in
      omega (arith, managed_byte l h, mark_most level.managed, levels_are v l h 1 (omega arith), reserved)

  -- the ith client
  listed_few : clients_in b ≤ n
  unfolding facts_in
  listed_few = omega (arith, few, up_to-length (clients_in b) (client_in b))

  mask_sound : (i : ℕ) → i < clients_in b → (t : ℕ) → t < seat_room → MaskSound b i t
  unfolding facts_in client_in
  mask_sound i l t h =
      let word-is = word b (mask_place i t) in
      by_cases (ℕ_discrete word-is 0) inl
      (λ u. let used = positive_test word-is none (some (word-is - 1)) (omega (arith, u)) in
      let is = below_in seat_room none (λ t. mask_of (word b (mask_place i t))) t h ∙ used in
      let fits = (w.clients (client_in b i) (up_to-in (clients_in b) (client_in b) i l)).mask t (word-is - 1) is in
      inr (omega (arith, fits.1, u), fits.0))

  over : (i : ℕ) → i < clients_in b → handle_before b i < handle_in b i
  unfolding facts_in client_in
  over zero l = rising_over 0 (facts_in b).clients w.handles (client_in b 0) (up_to-in (clients_in b) (client_in b) 0 l)
  over (suc i) l =
      rising_before 0 (facts_in b).clients i (suc i) (client_in b i) (client_in b (suc i)) w.handles (omega arith)
      (at-up_to (clients_in b) (client_in b) i (omega arith)) (at-up_to (clients_in b) (client_in b) (suc i) l)

  client_sound : (i : ℕ) → i < clients_in b → ClientSound b (handle_before b i) i
  unfolding facts_in client_in
  client_sound i l =
      let fits = w.clients (client_in b i) (up_to-in (clients_in b) (client_in b) i l) in
      record { over = over i l; issued = fits.issued; attributes = fits.attributes; events = fits.events }

  -- past the last of them
  row_end : (bytes : Option Client → List ℕ) (at k count : ℕ) → ((j : ℕ) → get_or (bytes none) j 0 ≡ 0)
      → Image.Stands b at (Image.part count k (λ i. bytes (get_elem? (facts_in b).clients i)))
      → Zero b (at + clients_in b * k) (at + count * k)
  unfolding facts_in
  row_end bytes at k count empty stands =
      subst (λ (m : ℕ). Zero b (at + m * k) (at + count * k)) (up_to-length (clients_in b) (client_in b))
      (unused bytes at k count empty (facts_in b).clients b stands)

  clients_end : ClientsEnd b
  clients_end =
      record {
        handles = row_end handle_bytes handles_at handle_size handle_room (zeros handle_size) (handles_are v);
        attributes = row_end attributes_bytes attributes_at attributes_size client_room (zeros attributes_size) (attributes_are v);
        events = row_end events_bytes events_at events_size client_room (zeros events_size) (events_are v);
      }

  masks_end : Zero b (masks_place (clients_in b)) size
  masks_end q l m =
      by_cases (dec_lt q (rest_at n)) (row_end masks_bytes masks_at masks_size n (zeros masks_size) (masks_are v) q l) (λ h. rest_is v q (omega arith) m)

  -- the ith range
  from : (i : ℕ) → i < ranges_in b → end_before_lem b i ≤ range_base b i
  unfolding facts_in range_in
  from zero l = omega arith
  from (suc i) l =
      apart_next 0 (facts_in b).ranges i (range_in b i) (range_in b (suc i)) w.apart (at-up_to (ranges_in b) (range_in b) i (omega arith))
      (at-up_to (ranges_in b) (range_in b) (suc i) l)

  range_sound : (i : ℕ) → i < ranges_in b → RangeSound b (end_before_lem b i) i
  unfolding facts_in range_in
  range_sound i l =
      let listed = up_to-in (ranges_in b) (range_in b) i l in
      let row = ranges_are v i (omega (arith, w.ranges_most, up_to-length (ranges_in b) (range_in b))) 6 (omega arith)
      ∙ ap (λ (o : Option Range). get_or (range_bytes o) 6 0) (at-up_to (ranges_in b) (range_in b) i l) in
      record {
        from = from i l;
        port = apart_port 0 (facts_in b).ranges w.apart (range_in b i) listed;
        within = w.ranges (range_in b i) listed;
        mark = omega (arith, row, mark_most (range_in b i).reserved);
      }

  ranges_end : Zero b (range_place (ranges_in b)) handles_at
  unfolding facts_in
  ranges_end q l =
      unused range_bytes ranges_at range_size most_ranges (zeros range_size) (facts_in b).ranges b (ranges_are v) q
      (omega (arith, up_to-length (ranges_in b) (range_in b)))

  -- the grant at a seat
  io_row : (t : ℕ) → t < seat_room → IoUsed b t → (j : ℕ) → j < io_size → byte b (io_place_lem t + j) ≡ get_or (io_bytes (some (io_in b t))) j 0
  io_row t l u j h = ios_are v t l j h ∙ ap (λ (o : Option IoGrant). get_or (io_bytes o) j 0) (io_here_lem b t l u)

  io_spare : (t : ℕ) → t < seat_room → IoUsed b t → Zero b (io_place_lem t + io_spare_at) (io_place_lem t + io_size)
  io_spare t l u q h m =
      let j = q - io_place_lem t - 7 in
      let place : q ≡ io_place_lem t + (7 + j) = omega arith in
      ap (byte b) place ∙ io_row t l u (7 + j) (omega arith)
      ∙ below_at 4 (λ j. get_or (io_bytes (some (io_in b t))) (7 + j) 0 ≡ 0) ((((tt, refl), refl), refl), refl) j (omega arith)

  io_sound : (t : ℕ) → t < seat_room → IoUsed b t → IoSound b t
  unfolding facts_in io_in
  io_sound t l u =
      let fits = w.ios t (io_in b t) (io_here_lem b t l u) in
      let mark : byte b (io_place_lem t + io_shared_at) ≤ 1 = omega (arith, io_row t l u 6 (omega arith), mark_most (io_in b t).shared) in
      let spare = io_spare t l u in
      search (rules, live_in, managed_in_lem, fits.managed, fits.answers)

  irq_sound : (t : ℕ) → t < seat_room → IrqUsed b t → IrqSound b t
  unfolding facts_in irq_in
  irq_sound t l u =
      let fits = w.irqs t (irq_in b t) (irq_here_lem b t l u) in
      let level = w.levels (irq_in b t).level fits.managed in
      let row = irqs_are v t l 3 (omega arith) ∙ ap (λ (o : Option IrqGrant). get_or (irq_bytes o) 3 0) (irq_here_lem b t l u) in
      let managed = managed_byte (irq_in b t).level level ∙ ap mark fits.managed in
      let manner : byte b (irq_place_lem t + irq_manner_at) ≤ 3 = omega (arith, row, manner_most (irq_in b t).manner) in
      search (rules, live_in)

  pub sound : SoundOf n size b
  unfolding facts_in io_here irq_here
  sound =
      record {
        size = v.size;
        marked = v.heads 0 (omega arith);
        sockets_least = w.sockets_least;
        sockets_most = w.sockets_most;
        cards = card_sound;
        levels = level_sound;
        ranges_most = omega (arith, up_to-length (ranges_in b) (range_in b), w.ranges_most);
        ranges = range_sound;
        ranges_end = ranges_end;
        clients_most = listed_few;
        clients = client_sound;
        clients_end = clients_end;
        masks = mask_sound;
        masks_end = masks_end;
        spare = spare_is v;
        ios = grants_placed io_bytes ios_at io_size (omega arith) refl b (io_in b) (IoSound b) (ios_are v) io_sound;
        irqs = grants_placed irq_bytes irqs_at irq_size (omega arith) refl b (irq_in b) (IrqSound b) (irqs_are v) irq_sound;
        io_company = λ s t l h x y. w.io_company s t (io_in b s) (io_in b t) (λ e. omega (arith, e)) (io_here_lem b s l x) (io_here_lem b t (omega arith) y);
        irq_company =
            λ s t l h x y. w.irq_company s t (irq_in b s) (irq_in b t) (λ e. omega (arith, e)) (irq_here_lem b s l x) (irq_here_lem b t (omega arith) y);
      }
