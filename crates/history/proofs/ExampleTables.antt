-- The tables of the examples, and that they are well formed: a run of requests, and two tables that are full. Assumes nothing.
use Rattle.facts.proofs.Words.{◌≡◌, refl, ap, inl, inr, List, [], ◌∷◌, true, true≢false, false≢true, some, none-ne-some, ℕ, zero, suc}
use Rattle.facts.proofs.Words.{◌+◌, ◌≤◌, ◌<◌, arith, length, WellFormed}
use Rattle.facts.specs.{Exclusive, Facts, Range, fresh, ◌∈◌, Apart, with_clients, RequestSocketMask, with_card, with_mask, level_added, range_added}
use Rattle.facts.specs.{with_ranges, RequestIrq, Fits, IrqAttributesBad, IrqInfoBad, RequestIo, IoAttributesBad, IoSizeBad, request_irq, request_io}
use Rattle.facts.specs.{request_socket_mask, most_issued, most_ranges, irq_asked}
use Rattle.facts.proofs.{card_formed, clients_formed, ranges_formed, listing, level_added_formed, range_added_formed, named_one}
use Rattle.facts_cases.specs.{done, one_client, range, ports, granting_irq, granting_io}
use Rattle.facts_cases.proofs.{alone_taken, as_left, ◌then◌, ◌nor◌, listed_alone}
use Rattle.history.proofs.Giving.{left}
use Rattle.history.proofs.OnSockets.{Ready, ready, two_sockets, one_client_lem, for, own_passed, irq_requests, io_requests, mask_requests}

-- a card in each socket, and the level 3 and all ports managed
abbrev pub idle : Facts
idle = range_added (level_added (with_card (with_card one_client 0 true) 1 true) 3 0) 0 0x10000 0

pub idle_ready : Ready idle
idle_ready =
    ready
    (range_added_formed _
    (level_added_formed _ (card_formed _ (card_formed one_client one_client_lem.formed 0 true (omega arith)) 1 true (omega arith)) 3 0
    ((λ e. e (inl refl)) then (omega arith) then false≢true then tt))
    0 0x10000 0 16
    (((λ e. e (inl refl)) nor omega arith) then (omega arith nor omega arith) then (omega arith) then (λ e. e.2.listed) then (omega arith) then tt))
    _ (inl refl) refl

-- packets for the socket 0, past socket and function. One level named, exclusive, and AssignedIRQ
abbrev pub irq_naming : ℕ → ℕ → List ℕ
irq_naming l assigned = 0x00 ∷ 0x00 ∷ assigned ∷ (0x20 + l) ∷ 0x00 ∷ 0x00 ∷ []

-- eight ports at 16 lines, by their base's bytes
abbrev pub io_at : ℕ → ℕ → List ℕ
io_at low high = low ∷ high ∷ 0x08 ∷ 0x00 ∷ 0x00 ∷ 0x00 ∷ 0x00 ∷ 0x00 ∷ 0x10 ∷ []

-- what the client 1 asks for: the level 3, the ports 300 to 307, and the event mask 1
abbrev pub packet_irq : List ℕ
packet_irq = irq_naming 3 0

abbrev pub packet_io : List ℕ
packet_io = io_at 0x00 0x03

abbrev pub mask_asked : List ℕ
mask_asked = 0x01 ∷ 0x00 ∷ []

-- their attributes, IRQInfo1 and sizes are in order
pub irq_good : (l : ℕ) → l < 16 → (IrqAttributesBad (for 0 (irq_naming l 0)) → ⊥) × (IrqInfoBad (for 0 (irq_naming l 0)) → ⊥)
irq_good l below =
    ((λ e. omega arith) nor (λ e. omega arith) nor (λ e. omega arith) nor (λ e. omega arith) nor (λ e. omega arith))
    then ((λ e. omega arith) nor (λ e. omega arith) nor (λ e. omega arith))

pub io_good : (low high : ℕ) → (IoAttributesBad (for 0 (io_at low high)) → ⊥) × (IoSizeBad (for 0 (io_at low high)) → ⊥)
io_good low high = (omega arith nor omega arith nor omega arith nor omega arith) then (omega arith nor omega arith nor omega arith)

-- it is granted one after the other
abbrev pub irq_held : Facts
irq_held = granting_irq 0 3 Exclusive idle

abbrev pub io_held : Facts
io_held = granting_io 0 (ports 0x300 8 16) irq_held

abbrev pub busy : Facts
busy = with_clients io_held (with_mask 1 0 (some 1) io_held.clients)

pub irq_granted : RequestIrq idle 1 (for 0 packet_irq) (done 1 (for 0 (irq_naming 3 3)) irq_held)
irq_granted =
    inr (
      own_passed irq_requests idle_ready packet_irq refl
          (true≢false then (irq_good 3 (omega arith)).0 then (irq_good 3 (omega arith)).1 then (λ e. e refl) then (λ e. e 3 fits) then tt),
      (refl, record { level = 3; taken = alone_taken (λ s. refl) fits (λ l f. named_one (for 0 packet_irq) l (omega arith) f.named); leaves = as_left _ }),
    )
  where
    fits : Fits idle (irq_asked (for 0 packet_irq)) 3
    fits = record { named = refl; managed = refl; free = inl (λ s g h. none-ne-some g h.live) }

pub irq_ready : Ready irq_held
irq_ready =
    ready (left idle_ready.formed request_irq 1 (for 0 packet_irq) (done 1 (for 0 (irq_naming 3 3)) irq_held) tt irq_granted) _ (inl refl) refl

pub io_granted : RequestIo irq_held 1 (for 0 packet_io) (done 1 (for 0 packet_io) io_held)
io_granted =
    inr (
      own_passed io_requests irq_ready packet_io refl
          (true≢false
          then (io_good 0x00 0x03).0
          then (io_good 0x00 0x03).1
          then (λ e. e refl)
          then (λ e. (omega arith nor (λ u. u (λ x m. record { range = _; listed = inl refl; has = omega arith }))
          nor (λ u. u (λ x a. record { range = _; listed = inl refl; has = omega (arith, a.below) }))) e.1)
          then (λ e. none-ne-some _ e.1.held)
          then (omega arith)
          then tt),
      (refl, record { base = 0x300; taken = inl (omega arith, refl); leaves = as_left _ }),
    )

pub io_ready : Ready io_held
io_ready =
    ready (left irq_ready.formed request_io 1 (for 0 packet_io) (done 1 (for 0 packet_io) io_held) tt io_granted) _ (inl refl) refl

pub mask_granted : RequestSocketMask io_held 1 (for 0 mask_asked) (done 1 (for 0 mask_asked) busy)
mask_granted =
    inr (
      own_passed mask_requests io_ready mask_asked refl
          (true≢false then (λ e. e (omega arith)) then (λ e. none-ne-some _ (rw (listed_alone e.1.listed) at e.1.mask)) then tt),
      (refl, as_left _),
    )

pub busy_ready : Ready busy
busy_ready =
    ready (left io_ready.formed request_socket_mask 1 (for 0 mask_asked) (done 1 (for 0 mask_asked) busy) tt mask_granted) _ (inl refl) refl

-- every handle issued
abbrev pub spent : Facts
spent = listing (fresh 2) most_issued []

pub spent_formed : WellFormed spent
spent_formed =
    clients_formed (fresh 2) two_sockets most_issued [] (omega arith) (omega arith) tt (λ c m. absurd m)
    (λ s g e. absurd (none-ne-some g e)) (λ s g e. absurd (none-ne-some g e))

-- as many ranges as there can be, of a port each
abbrev one_port : ℕ → ℕ → List Range
one_port base zero = []
one_port base (suc n) = range base 1 ∷ one_port (base + 1) n

pub one_port_length : (base n : ℕ) → length (one_port base n) ≡ n
one_port_length base zero = refl
one_port_length base (suc n) = ap suc (one_port_length (base + 1) n)

one_port_apart : (base n : ℕ) → Apart base (one_port base n)
one_port_apart base zero = tt
one_port_apart base (suc n) = (omega arith, omega arith, one_port_apart (base + 1) n)

pub one_port_below : (base n : ℕ) (r : Range) → r ∈ one_port base n → r.base + r.count ≤ base + n
one_port_below base zero r m = elim m [ ]
one_port_below base (suc n) r (inl e) = omega (arith, ap (λ (x : Range). x.base) e, ap (λ (x : Range). x.count) e)
one_port_below base (suc n) r (inr m) = omega (arith, one_port_below (base + 1) n r m)

abbrev pub full : Facts
full = with_ranges (fresh 2) (one_port 0 most_ranges)

pub full_formed : WellFormed full
full_formed =
    ranges_formed (fresh 2) two_sockets _ (omega (arith, one_port_length 0 most_ranges)) (one_port_apart 0 most_ranges)
    (λ r m. omega (arith, one_port_below 0 most_ranges r m)) (λ s g e. absurd (none-ne-some g e))
