-- What is read off the image of a well-formed set is that set, so no two sets share an image. Assumes nothing.
use Rattle.facts.proofs.Words.{◌≡◌, refl, ap, ap₂, sym, ◌∙◌, subst, List, Bool, true, false, Option, none, some, ℕ, ◌+◌, ◌*◌, ◌-◌, ◌/◌, ◌%◌, ◌≤◌, ◌<◌}
use Rattle.facts.proofs.Words.{add_assoc, arith, length, get_or, get_elem?, WellFormed}
use Rattle.layout.proofs.Image
use Rattle.facts.specs.{Manner, Exclusive, TimeMultiplexed, DynamicLevel, DynamicPulse, Facts, Client, Range, IoGrant, IrqGrant, byte, word, Live}
use Rattle.facts.specs.{all_levels, most_sockets, most_clients}
use Rattle.facts.proofs.{rising_over}
use Rattle.layout.specs.{mark, mask_bytes, handle_bytes, attributes_bytes, events_bytes, masks_bytes, level_bytes, range_bytes, io_bytes, irq_bytes}
use Rattle.layout.specs.{manner_byte_lem, image, marked, mask_of, masks_place, mask_place, manner_of_lem, handle_place, attributes_place, events_place}
use Rattle.layout.specs.{range_place, level_place, io_place_lem, irq_place_lem, client_in, range_in, level_in, io_in, irq_in, io_here, irq_here, facts_in, up_to}
use Rattle.layout.specs.{below, client_room, head_sockets, head_clients, head_ranges, head_issued, seat_room, cards_at, attributes_size, events_size}
use Rattle.layout.specs.{handle_size, io_size, ios_at, irq_size, irqs_at, level_size, mask_size, masks_size, range_size, table_size}
use Rattle.layout.proofs.Parts.{each_at}
use Rattle.layout.proofs.Lists.{below_back, absent, at_in, listed}
use Rattle.layout.proofs.Grants.{zero_test, positive_test, grants_back}
use Rattle.layout.proofs.Shows.{Shows, image_shows, card_at, levels_are, ranges_are, handles_are, attributes_are, events_are, ios_are}
use Rattle.layout.proofs.Shows.{irqs_are, masks_are}

-- numbers of two and four bytes
pub two_back : (n : ℕ) → n % 256 + 256 * (n / 256) ≡ n
two_back n = omega arith

four_back : (n : ℕ) → n % 256 + 256 * (n / 256 % 256) + 65536 * (n / 65536 % 256 + 256 * (n / 16777216)) ≡ n
four_back n = omega arith

mark_back : (t : Bool) → marked (mark t) ≡ t
mark_back true = refl
mark_back false = refl

pub manner_back : (m : Manner) → manner_of_lem (manner_byte_lem m) ≡ m
manner_back Exclusive = refl
manner_back TimeMultiplexed = refl
manner_back DynamicLevel = refl
manner_back DynamicPulse = refl

-- a mask's two bytes
mask_back : (o : Option ℕ) (w : ℕ) → w ≡ get_or (mask_bytes o) 0 0 + 256 * get_or (mask_bytes o) 1 0 → mask_of w ≡ o
mask_back none w e = zero_test w none (some (w - 1)) e
mask_back (some m) w e =
    positive_test w none (some (w - 1)) (omega (arith, two_back (m + 1))) ∙ ap {B = Option ℕ} some (omega (arith, two_back (m + 1)))

-- a client's masks stand one after the other, and the bytes of all are theirs
module _ (b : List ℕ) (p : ℕ) (c : Client) where
  abbrev pub MasksStand : Type 0
  MasksStand = Image.Stands b p (Image.part seat_room mask_size (λ s. mask_bytes (c.mask s)))

  of_mask : (s r : ℕ) → s < seat_room → r < mask_size → get_or (masks_bytes (some c)) (s * mask_size + r) 0 ≡ get_or (mask_bytes (c.mask s)) r 0
  of_mask s r l m = each_at mask_size (λ s. mask_bytes (c.mask s)) (λ s. Image.mask_size_lem (c.mask s)) seat_room s r l m

  pub masks_stand : ((j : ℕ) → j < masks_size → byte b (p + j) ≡ get_or (masks_bytes (some c)) j 0) → MasksStand
  masks_stand at s l r m = ap (byte b) (omega arith) ∙ at (s * mask_size + r) (omega arith) ∙ of_mask s r l m

  pub masks_join : MasksStand → (j : ℕ) → j < masks_size → byte b (p + j) ≡ get_or (masks_bytes (some c)) j 0
  masks_join stand j m =
      let s = j / 2 in
      let r = j % 2 in
      let place : j ≡ s * mask_size + r = omega arith in
      ap (byte b) (omega arith) ∙ stand s (omega arith) r (omega arith)
      ∙ sym (ap (λ (k : ℕ). get_or (masks_bytes (some c)) k 0) place ∙ of_mask s r (omega arith) (omega arith))

-- a range's record is the range
range_back : (b : List ℕ) (i : ℕ) (r : Range) → ((j : ℕ) → j < range_size → byte b (range_place i + j) ≡ get_or (range_bytes (some r)) j 0)
    → range_in b i ≡ r
unfolding range_in
range_back b i r at =
    let words = Image.word_of b (range_place i) range_size (range_bytes (some r)) at in
    let high = ap (word b) (add_assoc (range_place i) 2 2) ∙ words 4 (omega arith) in
    λ k. record {
      base = (Image.first_word b (range_place i) range_size (range_bytes (some r)) at (omega arith) ∙ two_back r.base) k;
      count = (ap₂ (λ (y z : ℕ). y + 65536 * z) (words 2 (omega arith)) high ∙ four_back r.count) k;
      reserved = (ap marked (at 6 (omega arith)) ∙ mark_back r.reserved) k;
    }

-- a grant's record is the grant
io_whole : (b : List ℕ) (s : ℕ) (g : IoGrant) → ((j : ℕ) → j < io_size → byte b (io_place_lem s + j) ≡ get_or (io_bytes (some g)) j 0) → io_in b s ≡ g
unfolding io_in
io_whole b s g at =
    let base = Image.word_of b (io_place_lem s) io_size (io_bytes (some g)) at 2 (omega arith) ∙ two_back g.ports.base in
    λ k. record {
      client = (Image.first_word b (io_place_lem s) io_size (io_bytes (some g)) at (omega arith) ∙ two_back g.client) k;
      ports = record { base = base k; count = at 4 (omega arith) k; lines = at 5 (omega arith) k };
      shared = (ap marked (at 6 (omega arith)) ∙ mark_back g.shared) k;
    }

irq_whole : (b : List ℕ) (s : ℕ) (g : IrqGrant) → ((j : ℕ) → j < irq_size → byte b (irq_place_lem s + j) ≡ get_or (irq_bytes (some g)) j 0) → irq_in b s ≡ g
unfolding irq_in
irq_whole b s g at =
    λ k. record {
      client = (Image.first_word b (irq_place_lem s) irq_size (irq_bytes (some g)) at (omega arith) ∙ two_back g.client) k;
      level = at 2 (omega arith) k;
      manner = (ap manner_of_lem (at 3 (omega arith)) ∙ manner_back g.manner) k;
    }

-- a live client's handle is not 0
pub live_positive : {F : Facts} (w : WellFormed F) {h : ℕ} → Live F h → 0 < h
live_positive {F} w l = subst (λ (n : ℕ). 0 < n) l.handle (rising_over 0 F.clients w.handles l.client l.listed)

-- what is marked true nowhere past a bound is false there
unmarked : (t : Bool) → (t ≡ true → ⊥) → false ≡ t
unmarked true h = absurd (h refl)
unmarked false h = refl

-- bytes that show a well-formed set say it, where the clients have room
module _ {n size : ℕ} (F : Facts) (w : WellFormed F) (few : length F.clients ≤ n) (room : n ≤ client_room) {b : List ℕ} (v : Shows n size F b) where
  cards_back : below most_sockets false (λ s. marked (byte b (cards_at + s))) ≡ F.card
  cards_back =
      below_back most_sockets false (λ s. marked (byte b (cards_at + s))) F.card (λ s l. ap marked (card_at v s l) ∙ mark_back (F.card s))
      (λ s l. unmarked (F.card s) (λ e. omega (arith, w.cards s e, w.sockets_most)))

  level_back : (l : ℕ) → l < all_levels → level_in b l ≡ F.level l
  unfolding level_in
  level_back l h =
      λ k. record {
        managed = (ap marked (Image.first_byte b (level_place l) level_size (level_bytes (F.level l)) (levels_are v l h) (omega arith))
            ∙ mark_back (F.level l).managed) k;
        reserved = (ap marked (levels_are v l h 1 (omega arith)) ∙ mark_back (F.level l).reserved) k;
      }

  levels_back : below all_levels (record { managed = false; reserved = false }) (level_in b) ≡ F.level
  levels_back =
      below_back all_levels (record { managed = false; reserved = false }) (level_in b) F.level level_back
      (λ l h k. record {
        managed = unmarked (F.level l).managed (λ e. omega (arith, w.levels l e)) k;
        reserved = unmarked (F.level l).reserved (λ e. omega (arith, w.levels l (w.reserved l e))) k;
      })

  ios_back : below seat_room none (io_here b) ≡ F.io
  unfolding io_here io_in
  ios_back =
      grants_back io_bytes ios_at io_size (omega arith) refl b (io_in b) (λ g. g.client) (λ s. refl) F.io (ios_are v)
      (λ s g e. let f = w.ios s g e in (omega (arith, f.socket, w.sockets_most), live_positive w f.client)) (io_whole b)

  irqs_back : below seat_room none (irq_here b) ≡ F.irq
  unfolding irq_here irq_in
  irqs_back =
      grants_back irq_bytes irqs_at irq_size (omega arith) refl b (irq_in b) (λ g. g.client) (λ s. refl) F.irq (irqs_are v)
      (λ s g e. let f = w.irqs s g e in (omega (arith, f.socket, w.sockets_most), live_positive w f.client)) (irq_whole b)

  -- the ith client is what it is said by, and the ith range what its record says
  client_is : (i : ℕ) (c : Client) → get_elem? F.clients i ≡ some c → i < length F.clients → client_in b i ≡ c
  unfolding client_in
  client_is i c e l =
      let bytes : (f : Option Client → List ℕ) (j : ℕ) → get_or (f (get_elem? F.clients i)) j 0 ≡ get_or (f (some c)) j 0 =
      (λ f j. ap (λ (o : Option Client). get_or (f o) j 0) e) in
      let masks = masks_stand b (masks_place i) c (λ j h. masks_are v i (omega arith) j h ∙ bytes masks_bytes j) in
      let none_past : (s : ℕ) → seat_room ≤ s → none ≡ c.mask s = (λ s h. absent (c.mask s)
      (λ m q. omega (arith, ((w.clients c (at_in F.clients i e)).mask s m q).0, w.sockets_most))) in
      λ k. record {
        handle = (Image.first_word b (handle_place i) handle_size (handle_bytes (some c))
            (λ j h. handles_are v i (omega arith) j h ∙ bytes handle_bytes j) (omega arith) ∙ two_back c.handle) k;
        attributes = Image.first_byte b (attributes_place i) attributes_size (attributes_bytes (some c))
            (λ j h. attributes_are v i (omega arith) j h ∙ bytes attributes_bytes j) (omega arith) k;
        events = (Image.first_word b (events_place i) events_size (events_bytes (some c))
            (λ j h. events_are v i (omega arith) j h ∙ bytes events_bytes j) (omega arith) ∙ two_back c.events) k;
        mask = below_back seat_room none (λ s. mask_of (word b (mask_place i s))) c.mask
            (λ s h. let said = Image.first_word b (mask_place i s) mask_size (mask_bytes (c.mask s)) (masks s h) (omega arith) in
            mask_back (c.mask s) (word b (mask_place i s)) said) none_past k;
      }

  range_is : (i : ℕ) (r : Range) → get_elem? F.ranges i ≡ some r → i < length F.ranges → range_in b i ≡ r
  range_is i r e l =
      range_back b i r (λ j h. ranges_are v i (omega (arith, w.ranges_most)) j h ∙ ap (λ (o : Option Range). get_or (range_bytes o) j 0) e)

  pub shown_back : facts_in b ≡ F
  unfolding facts_in
  shown_back =
      let head = v.heads in
      let issued : word b head_issued ≡ F.issued = omega (arith, head 4 (omega arith), head 5 (omega arith)) in
      λ k. record {
        sockets = head head_sockets (omega arith) k;
        card = cards_back k;
        issued = issued k;
        clients = (ap (λ (n : ℕ). up_to n (client_in b)) (head head_clients (omega arith)) ∙ listed F.clients (client_in b) client_is) k;
        level = levels_back k;
        ranges = (ap (λ (n : ℕ). up_to n (range_in b)) (head head_ranges (omega arith)) ∙ listed F.ranges (range_in b) range_is) k;
        io = ios_back k;
        irq = irqs_back k;
      }

-- what is read off the image of a well-formed set is that set
pub read_back : (F : Facts) (w : WellFormed F) → facts_in (image F) ≡ F
read_back F w = shown_back F w w.clients_most (omega arith) (image_shows most_clients table_size F (omega arith))

-- no two well-formed sets share an image
pub image_injective : (F G : Facts) → WellFormed F → WellFormed G → image F ≡ image G → F ≡ G
image_injective F G w v e = sym (read_back F w) ∙ ap facts_in e ∙ read_back G v
