-- Sound bytes are the image of the facts read off them. Assumes nothing.
use Rattle.facts.proofs.Words.{◌≡◌, refl, ap, sym, ◌∙◌, List, [], ◌∷◌, false, Option, none, some, ℕ, ◌+◌, ◌*◌, ◌-◌, ◌≤◌, ◌<◌, add_assoc, add-zero}
use Rattle.facts.proofs.Words.{by_cases, ℕ_discrete, arith, get_or, get_elem?, replicate}
use Rattle.facts.specs.{Client, Level, byte, word, Bytes, all_levels, most_ranges, most_sockets}
use Rattle.layout.specs.{mark, two, mask_bytes, handle_bytes, attributes_bytes, events_bytes, masks_bytes, level_bytes, range_bytes, io_bytes, irq_bytes}
use Rattle.layout.specs.{manner_byte_lem, clients_in, ranges_in, marked, mask_of, masks_place, mask_place, manner_of_lem, handle_place, attributes_place}
use Rattle.layout.specs.{events_place, range_place, level_place, io_place_lem, irq_place_lem, client_in, range_in, level_in, io_in, irq_in, io_here, irq_here}
use Rattle.layout.specs.{facts_in, IoSound, IrqSound, Zero, client_room, handle_room, seat_room, head_size, card_size, cards_at, level_size, levels_at}
use Rattle.layout.specs.{range_size, ranges_at, handle_size, handles_at, attributes_size, attributes_at, events_size, events_at, io_size, ios_at, irq_size}
use Rattle.layout.specs.{irqs_at, masks_size, masks_at, rest_at, level_reserved_at, spare_size, spare_at}
use Rattle.layout.specs.Sound.{SoundOf}
use Rattle.layout.proofs.Parts.{Below, below_at, below_all, zeros}
use Rattle.layout.proofs.Lists.{below_in, up_to-length}
use Rattle.layout.proofs.Image.{part, Stands}
use Rattle.layout.proofs.Shows.{Shows, head_bytes}
use Rattle.layout.proofs.Records.{listed_stand}
use Rattle.layout.proofs.Grants.{zero_test, positive_test, grants_stand}
use Rattle.layout.proofs.RoundTrip.{masks_join}

-- a byte that is 0 or 1 is its mark's
mark_of : (n : ℕ) → n ≤ 1 → n ≡ mark (marked n)
mark_of n l = below_at 2 (λ n. n ≡ mark (marked n)) ((tt, refl), refl) n (omega arith)

manner_byte-of : (n : ℕ) → n ≤ 3 → n ≡ manner_byte_lem (manner_of_lem n)
manner_byte-of n l = below_at 4 (λ n. n ≡ manner_byte_lem (manner_of_lem n)) ((((tt, refl), refl), refl), refl) n (omega arith)

module _ (b : List ℕ) (bytes : Bytes b) where
  -- the bytes of a number of two bytes, and of one
  word_bytes : (p j : ℕ) → j < 2 → byte b (p + j) ≡ get_or (two (word b p)) j 0
  word_bytes p = below_at 2 (λ j. byte b (p + j) ≡ get_or (two (word b p)) j 0) (omega (arith, ap (byte b) (add-zero p), bytes p, bytes (p + 1)))

  only_byte : (p j : ℕ) → j < 1 → byte b (p + j) ≡ get_or (byte b p ∷ []) j 0
  only_byte p = below_at 1 (λ j. byte b (p + j) ≡ get_or (byte b p ∷ []) j 0) (tt, ap (byte b) (add-zero p))

  -- what is known of a record that begins with one number and has another at 2, of two bytes and of four
  pub record Known (p : ℕ) : Type 0 where
    pub first : byte b (p + 0) ≡ byte b p
    pub two_high : byte b (p + 2 + 1) ≡ byte b (p + 3)
    pub third : byte b (p + 2 + 2) ≡ byte b (p + 4)
    pub last : byte b (p + 2 + 2 + 1) ≡ byte b (p + 5)
    pub low : Below 6 (λ j. byte b (p + j) < 256)

  known : (p : ℕ) → Known p
  known p =
      let five : p + 2 + 2 + 1 ≡ p + 5 = omega arith in
      let low = below_all 6 (λ j. byte b (p + j) < 256) (λ j l. bytes (p + j)) in
      let high = ap (byte b) (add_assoc p 2 1) in
      record { first = ap (byte b) (add-zero p); two_high = high; third = ap (byte b) (add_assoc p 2 2); last = ap (byte b) five; low = low }

  module _ {n size : ℕ} (room : n ≤ client_room) (s : SoundOf n size b) where
    card_bytes : Stands b cards_at (part most_sockets card_size (λ i. mark ((facts_in b).card i) ∷ []))
    unfolding facts_in
    card_bytes i l =
        let place : cards_at + i * 1 + 0 ≡ cards_at + i = omega arith in
        let is = below_in most_sockets false (λ s. marked (byte b (cards_at + s))) i l in
        below_at 1 (λ j. byte b (cards_at + i * 1 + j) ≡ get_or (mark ((facts_in b).card i) ∷ []) j 0)
        (tt, ap (byte b) place ∙ mark_of (byte b (cards_at + i)) (s.cards i l).mark ∙ ap mark (sym is))

    level_bytes_lem : Stands b levels_at (part all_levels level_size (λ i. level_bytes ((facts_in b).level i)))
    unfolding facts_in level_in
    level_bytes_lem i l j m =
        let p = level_place i in
        let managed = ap (byte b) (add-zero p) ∙ mark_of (byte b p) (s.levels i l).managed in
        let reserved = mark_of (byte b (p + level_reserved_at)) (omega (arith, (s.levels i l).managed, (s.levels i l).reserved)) in
        below_at 2 (λ j. byte b (p + j) ≡ get_or (level_bytes (level_in b i)) j 0) ((tt, managed), reserved) j m
        ∙ ap (λ (v : Level). get_or (level_bytes v) j 0) (sym (below_in all_levels (record { managed = false; reserved = false }) (level_in b) i l))

    io_bytes_lem : Stands b ios_at (part seat_room io_size (λ i. io_bytes ((facts_in b).io i)))
    unfolding facts_in io_here io_in
    io_bytes_lem = grants_stand io_bytes ios_at io_size (omega arith) refl b (io_in b) (IoSound b) s.ios used
      where
        used : (i : ℕ) → IoSound b i → (j : ℕ) → j < io_size → byte b (io_place_lem i + j) ≡ get_or (io_bytes (some (io_in b i))) j 0
        used i u =
            let p = io_place_lem i in
            let k = known p in
            let spare = below_all 4 (λ j. byte b (p + (7 + j)) ≡ 0) (λ j l. u.spare (p + (7 + j)) (omega arith) (omega arith)) in
            below_at io_size (λ j. byte b (p + j) ≡ get_or (io_bytes (some (io_in b i))) j 0) (omega (arith, mark_of (byte b (p + 6)) u.mark))

    irq_bytes_lem : Stands b irqs_at (part seat_room irq_size (λ i. irq_bytes ((facts_in b).irq i)))
    unfolding facts_in irq_here irq_in
    irq_bytes_lem =
        grants_stand irq_bytes irqs_at irq_size (omega arith) refl b (irq_in b) (IrqSound b) s.irqs
        (λ i u. let k = known (irq_place_lem i) in
        below_at 4 (λ j. byte b (irq_place_lem i + j) ≡ get_or (irq_bytes (some (irq_in b i))) j 0)
        (omega (arith, manner_byte-of (byte b (irq_place_lem i + 3)) u.manner)))

    range_bytes_lem : Stands b ranges_at (part most_ranges range_size (λ i. range_bytes (get_elem? (facts_in b).ranges i)))
    unfolding facts_in range_in
    range_bytes_lem =
        listed_stand range_bytes ranges_at range_size most_ranges (zeros range_size) (ranges_in b) (range_in b) b
        (λ i l. let k = known (range_place i) in
        below_at range_size (λ j. byte b (range_place i + j) ≡ get_or (range_bytes (some (range_in b i))) j 0)
        (omega (arith, mark_of (byte b (range_place i + 6)) (s.ranges i l).mark)))
        s.ranges_end

    -- a sound mask's two bytes
    mask_two : (i t : ℕ) → mask_bytes (mask_of (word b (mask_place i t))) ≡ two (word b (mask_place i t))
    mask_two i t =
        let w = word b (mask_place i t) in
        by_cases (ℕ_discrete w 0) (λ e. ap mask_bytes (zero_test w none (some (w - 1)) e) ∙ ap two (sym e))
        (λ d. ap mask_bytes (positive_test w none (some (w - 1)) (omega (arith, d))) ∙ ap two (omega (arith, d)))

    mask_bytes_lem : (i : ℕ) (j : ℕ) → j < masks_size → byte b (masks_place i + j) ≡ get_or (masks_bytes (some (client_in b i))) j 0
    unfolding client_in
    mask_bytes_lem i =
        masks_join b (masks_place i) (client_in b i)
        (λ t h r m. word_bytes (mask_place i t) r m ∙ ap (λ (x : List ℕ). get_or x r 0) (sym (mask_two i t))
        ∙ ap (λ (o : Option ℕ). get_or (mask_bytes o) r 0) (sym (below_in seat_room none (λ t. mask_of (word b (mask_place i t))) t h)))

    -- one row of what clients are said by
    row_bytes : (bytes : Option Client → List ℕ) (at k room : ℕ) → bytes none ≡ replicate k 0
        → ((i j : ℕ) → j < k → byte b (at + i * k + j) ≡ get_or (bytes (some (client_in b i))) j 0)
        → Zero b (at + clients_in b * k) (at + room * k)
        → Stands b at (part room k (λ i. bytes (get_elem? (facts_in b).clients i)))
    unfolding facts_in
    row_bytes bytes at k room empty said past =
        listed_stand bytes at k room (λ j. ap (λ (x : List ℕ). get_or x j 0) empty ∙ zeros k j) (clients_in b) (client_in b) b (λ i l. said i) past

    -- the bytes show the facts read off them
    pub whole : rest_at n ≤ size → Shows n size (facts_in b) b
    unfolding facts_in client_in
    whole fits =
        let past = s.clients_end in
        let handles = row_bytes handle_bytes handles_at handle_size handle_room refl (λ i. word_bytes (handle_place i)) past.handles in
        let attrs = row_bytes attributes_bytes attributes_at attributes_size client_room refl (λ i. only_byte (attributes_place i)) past.attributes in
        let events = row_bytes events_bytes events_at events_size client_room refl (λ i. word_bytes (events_place i)) past.events in
        let masks = row_bytes masks_bytes masks_at masks_size n refl mask_bytes_lem (λ q l m. s.masks_end q l (omega arith)) in
        let clients = sym (up_to-length (clients_in b) (client_in b)) in
        let ranges = sym (up_to-length (ranges_in b) (range_in b)) in
        let spare : Stands b spare_at (part spare_size 1 (λ i. 0 ∷ [])) = (λ i l. below_at 1 (λ j. byte b (spare_at + i * 1 + j) ≡ get_or (0 ∷ []) j 0)
        (tt, s.spare (spare_at + i * 1 + 0) (omega arith) (omega arith))) in
        let rest : Zero b (rest_at n) size = (λ i l m. s.masks_end i (omega (arith, s.clients_most)) m) in
        record {
          size = s.size;
          heads = below_at head_size (λ j. byte b j ≡ get_or (head_bytes (facts_in b)) j 0)
              (omega (arith, s.marked, clients, ranges, bytes 4, bytes 5));
          shown = (card_bytes, (level_bytes_lem, (range_bytes_lem, (handles, (attrs, (events, (io_bytes_lem, (irq_bytes_lem, (spare, (masks, rest))))))))));
        }
