-- Records that can be no grants are sound exactly if they are all zero; and what is held at a seat is what its record says. Assumes nothing.
use Rattle.std.specs.Prelude.{Some}
use Rattle.facts.proofs.Words.{◌≡◌, ap, ◌∙◌, ◌⊎◌, inl, ⊎_elim, ◌≢◌, List, ℕ, ◌+◌, ◌≤◌, ◌<◌, arith}
use Rattle.facts.specs.declared.Ports.{Ports}
use Rattle.facts.specs.{most_seats, byte, word, Seat, most_lines, IoGrant, all_ports, most_asked, Within}
use Rattle.layout.proofs.{ports_are, used_sound}
use Rattle.layout.specs.{ports_in, Zero, IoPlaceSound, IoSound, io_place_lem, io_base_at, io_count_at, io_size, io_lines_at, io_in}
use Rattle.seats.specs.declared.HeldPorts.{HeldPorts}
use Rattle.seats.specs.{HeldIs, range, SeatSound}

-- the records from a seat on, where none of them can be a grant, are sound and keep company exactly if they are all zero
module _ (b : List ℕ) (first to size : ℕ) (place : ℕ → ℕ) where
  abbrev RecordSound : (ℕ → Type 0) → (ℕ → ℕ → Type 0) → ℕ → Type 0
  RecordSound P Q =
      SeatSound (λ t. Zero b (place t) (place t + size) ⊎ ((word b (place t) ≢ 0) × P t)) (λ t u. word b (place t) ≢ 0 → word b (place u) ≢ 0 → Q t u)

  module _ (two : 2 ≤ size) (starts : (s : ℕ) → first ≤ s → place first ≤ place s) (ends : (s : ℕ) → s < most_seats → place s + size ≤ to)
      (z : Zero b (place first) to) where
    pub zero_sound : {P : ℕ → Type 0} {Q : ℕ → ℕ → Type 0} (s : ℕ) → first ≤ s → s < most_seats → RecordSound P Q s
    zero_sound s f l =
        record {
          place = inl (λ i h m. z i (omega (arith, starts s f)) (omega (arith, ends s l)));
          company = λ t m u u'. absurd
              (u (omega (
                arith,
                z (place s) (starts s f) (omega (arith, ends s l)),
                z (place s + 1) (omega (arith, starts s f)) (omega (arith, ends s l)),
              )));
        }

  -- seat gives the record in which a byte stands
  pub sound_zero : {P : ℕ → Type 0} {Q : ℕ → ℕ → Type 0} (seat : ℕ → ℕ)
      → ((i : ℕ) → place first ≤ i → i < to → (first ≤ seat i) × (seat i < most_seats) × Within i (place (seat i)) size)
      → ((s : ℕ) → P s → s < first) → ((s : ℕ) → s < most_seats → RecordSound P Q s) → Zero b (place first) to
  sound_zero seat at below all i f l =
      let k = at i f l in
      ⊎_elim (λ z. z i k.2.from k.2.below) (λ g. absurd (omega (arith, below (seat i) g.1, k.0))) (all (seat i) k.1).place

-- an I/O grant that is there: its ports are those of its record, which are bytes
module _ (b : List ℕ) (s : Seat) (x : HeldPorts) (h : HeldIs b s (Some x)) where
  pub ports_held : ◌≡◌ {A = Ports} (range x).ports (ports_in b (io_place_lem s))
  ports_held = ap (λ (y : IoGrant). y.ports) h.1 ∙ ports_are b s

  pub lines_held : x.ports.lines ≡ byte b (io_place_lem s + io_lines_at)
  lines_held = ap (λ (p : Ports). p.lines) ports_held

  pub client_held : x.client.0 ≡ word b (io_place_lem s)
  unfolding io_in
  client_held = ap (λ (y : IoGrant). y.client) h.1

  -- a base and a count that a record can say
  pub held_fits : ((i : ℕ) → byte b i ≤ 255) → (x.ports.base < all_ports) × (x.ports.count ≤ most_asked)
  held_fits known =
      let at = io_place_lem s + io_base_at in
      let base = ap (λ (p : Ports). p.base) ports_held in
      let count = ap (λ (p : Ports). p.count) ports_held in
      omega (arith, base, count, known at, known (at + 1), known (io_place_lem s + io_count_at))

  -- so that it is sound where the record is
  module _ (place : IoPlaceSound b s) where
    grant_sound : IoSound b s
    grant_sound = used_sound b (io_place_lem s) io_size (omega arith) place h.0

    pub held_port : 1 ≤ x.ports.count
    held_port = omega (arith, ap (λ (p : Ports). p.count) ports_held, grant_sound.port)

    pub held_lines : x.ports.lines ≤ most_lines
    held_lines = omega (arith, lines_held, grant_sound.lines)
