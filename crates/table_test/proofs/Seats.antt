-- The seats of sockets, and those that no socket has, whose records are zero: together they are all seats that have room. Assumes nothing.
use Rattle.facts.proofs.Words.{◌≡◌, inl, ⊎_elim, by_cases, List, ℕ, ◌+◌, ◌-◌, ◌/◌, ◌≤◌, ◌<◌, dec_lt, arith, rules, length}
use Rattle.facts.specs.{most_seats}
use Rattle.layout.specs.{io_place_lem, irq_place_lem, io_size, irq_size, ios_at, irqs_at, spare_at, masks_at, table_size, seat_room, Zero, IoPlaceSound, IrqPlaceSound, IoPairSound}
use Rattle.layout.specs.{IrqPairSound}
use Rattle.layout.specs.Sound.{Sound}
use Rattle.table_lists.specs.{SeatsEnd}
use Rattle.seats.specs.{IosSound, IrqsSound}
use Rattle.table_test.specs.{ListsSound, RestSound, SocketsSound}

module _ {b : List ℕ} where
  pub io_places : IosSound b → SeatsEnd b → (s : ℕ) → s < seat_room → IoPlaceSound b s
  io_places sound end s l =
      by_cases (dec_lt s most_seats) (λ m. (sound s m).place) (λ m. inl (λ q h k. end.ios q (omega arith) (omega arith)))

  pub irq_places : IrqsSound b → SeatsEnd b → (s : ℕ) → s < seat_room → IrqPlaceSound b s
  irq_places sound end s l =
      by_cases (dec_lt s most_seats) (λ m. (sound s m).place) (λ m. inl (λ q h k. end.irqs q (omega arith) (omega arith)))

  -- a seat that no socket has keeps company with all
  pub io_pairs : IosSound b → SeatsEnd b → (s t : ℕ) → s < seat_room → t < s → IoPairSound b s t
  io_pairs sound end s t l m =
      by_cases (dec_lt s most_seats) (λ h. (sound s h).company t m)
      (λ h used _. absurd (used (omega (arith, end.ios (io_place_lem s) (omega arith) (omega arith), end.ios (io_place_lem s + 1) (omega arith) (omega arith)))))

  pub irq_pairs : IrqsSound b → SeatsEnd b → (s t : ℕ) → s < seat_room → t < s → IrqPairSound b s t
  irq_pairs sound end s t l m =
      by_cases (dec_lt s most_seats) (λ h. (sound s h).company t m)
      (λ h used _. absurd
      (used (omega (arith, end.irqs (irq_place_lem s) (omega arith) (omega arith), end.irqs (irq_place_lem s + 1) (omega arith) (omega arith)))))

-- a sound table has no grant at a seat that no socket has
pub no_seats : {b : List ℕ} → Sound b → SeatsEnd b
no_seats {b} s =
    record {
      ios = λ q l m. let t = (q - ios_at) / io_size in io_free t (omega arith) (omega arith) q (omega arith) (omega arith);
      irqs = λ q l m. by_cases (dec_lt q spare_at)
          (λ h. let t = (q - irqs_at) / irq_size in irq_free t (omega arith) (omega arith) q (omega arith) (omega arith)) (λ h. s.spare q (omega arith) m);
    }
  where
    io_free : (t : ℕ) → most_seats ≤ t → t < seat_room → Zero b (io_place_lem t) (io_place_lem t + io_size)
    io_free t l m = ⊎_elim (λ z. z) (λ u. absurd (omega (arith, u.1.socket, s.sockets_most))) (s.ios t m)

    irq_free : (t : ℕ) → most_seats ≤ t → t < seat_room → Zero b (irq_place_lem t) (irq_place_lem t + irq_size)
    irq_free t l m = ⊎_elim (λ z. z) (λ u. absurd (omega (arith, u.1.socket, s.sockets_most))) (s.irqs t m)

-- the sockets of a sound table, and what lies past its lists; and the parts together
pub sockets_of : {b : List ℕ} → Sound b → SocketsSound b
sockets_of s =
    record {
      cards = s.cards;
      ios = λ i l. record { place = s.ios i (omega arith); company = λ j m. s.io_company i j (omega arith) m };
      irqs = λ i l. record { place = s.irqs i (omega arith); company = λ j m. s.irq_company i j (omega arith) m };
    }

pub rest_of : {b : List ℕ} → Sound b → RestSound b
rest_of s = record { ranges_end = s.ranges_end; seats_end = no_seats s; masks = s.masks; masks_end = s.masks_end }

pub parts_sound : {b : List ℕ} → length b ≡ table_size → ListsSound b → SocketsSound b → RestSound b → Sound b
parts_sound {b} size l sockets e =
    let ios = io_places sockets.ios e.seats_end in
    let irqs = irq_places sockets.irqs e.seats_end in
    let io_company = io_pairs sockets.ios e.seats_end in
    let irq_company = irq_pairs sockets.irqs e.seats_end in
    let spare : Zero b spare_at masks_at = (λ q l m. e.seats_end.irqs q (omega arith) m) in
    search rules
