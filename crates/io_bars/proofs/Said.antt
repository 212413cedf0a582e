-- The bars that were entered have just the bases at which ports meet a live grant, or a gap. Assumes nothing.
use Rattle.std.specs.Prelude.{Option, Some, None}
use Rattle.facts.proofs.Words.{◌≡◌, sym, ◌∙◌, subst, List, some-injective, none-ne-some, ℕ, ◌<◌, arith}
use Rattle.facts.specs.{MeetsHeld, Facts, HeldPorts, Held, Meet, most_seats, most_lines, all_ports}
use Rattle.layout.specs.{Accepted}
use Rattle.seats.specs.{HeldIs, range}
use Rattle.seats.specs.declared.HeldPorts as seats
use Rattle.seats.proofs.{io_held_lem}
use Rattle.io_answering.specs.declared.gaps.Gaps.{Gaps}
use Rattle.io_answering.specs.{gap_at, RowsAre, ports_from}
use Rattle.io_obstacles.specs.{Bar, Bars, bar_at, grant_places, gap_places}
use Rattle.io_bars.specs.{BarIs, PortsFit, seat_ports, GrantBars, GapBars}

-- the bar of what is held at a seat
pub record OfSeat (b : List ℕ) (count lines s : ℕ) (bar : Bar) : Type 0 where
  pub read : Option seats.HeldPorts
  pub held : HeldIs b s read
  pub is : BarIs (seat_ports read) count lines bar

-- the bar of a gap
abbrev pub OfGap : Gaps → ℕ → ℕ → ℕ → Bar → Type 0
OfGap gaps count lines i = BarIs (gap_at gaps i) count lines

-- what is held begins at a port, and fits
pub seat_below : (b : List ℕ) (s : ℕ) (l : s < most_seats) → Accepted b → (r : Option seats.HeldPorts) → HeldIs b s r → (seat_ports r).base < all_ports
seat_below b s l a (Some x) h =
    let f = a.formed.ios s (range x) (io_held_lem b s l a (Some x) h) in
    let m = f.managed x.ports.base (record { from = omega arith; below = omega (arith, f.port) }) in
    omega (arith, m.has.below, a.formed.ranges m.range m.listed)
seat_below b s l a None h = omega arith

pub seat_fits : (b : List ℕ) (s : ℕ) (l : s < most_seats) → Accepted b → (r : Option seats.HeldPorts) → HeldIs b s r → PortsFit (seat_ports r)
seat_fits b s l a (Some x) h =
    let f = a.formed.ios s (range x) (io_held_lem b s l a (Some x) h) in
    record { base = omega (arith, seat_below b s l a (Some x) h); ports = omega (arith, f.asked); lines = f.lines }
seat_fits b s l a None h = record { base = omega arith; ports = omega arith; lines = omega arith }

module _ (b : List ℕ) (count lines : ℕ) where
  module _ (bars : Bars grant_places) (so : (s : ℕ) → s < grant_places → OfSeat b count lines s (bar_at bars s)) (a : Accepted b) where
    abbrev F : Facts
    F = a.facts

    -- ports that are met at a seat are held there
    met_held : (s x : ℕ) → s < most_seats → (r : Option seats.HeldPorts) → HeldIs b s r → Meet (ports_from count lines x) (seat_ports r) → MeetsHeld F (ports_from count lines x)
    met_held s x l (Some y) h m = record { seat = s; range = range y; held = io_held_lem b s l a (Some y) h; meets = m }
    met_held s x l None h m = absurd (omega (arith, m.other_in.from, m.other_in.below))

    held_met : (s x : ℕ) → s < most_seats → (y : HeldPorts) → Held F s y → Meet (ports_from count lines x) y.ports → (r : Option seats.HeldPorts) → HeldIs b s r
        → Meet (ports_from count lines x) (seat_ports r)
    held_met s x l y e m (Some z) h =
        let same : range z ≡ y = some-injective (range z) y (sym (io_held_lem b s l a (Some z) h) ∙ e) in
        subst (λ (w : HeldPorts). Meet (ports_from count lines x) w.ports) (sym same) m
    held_met s x l y e m None h = absurd (none-ne-some y (sym (io_held_lem b s l a None h) ∙ e))

    pub grants_are : GrantBars F count lines bars
    grants_are =
        record {
          has = λ x m.
              let l : m.seat < most_seats = omega (arith, (a.formed.ios m.seat m.range m.held).socket, a.formed.sockets_most) in
              let q = so m.seat l in
              record { place = m.seat; below = l; short = q.is.short; lies = q.is.has x (held_met m.seat x l m.range m.held m.meets q.read q.held) };
          only = λ x l. let q = so l.place l.below in met_held l.place x l.below q.read q.held (q.is.only x l.lies);
        }

  module _ (gaps : Gaps) (are : RowsAre b gaps) (few : lines < most_lines) (bars : Bars gap_places)
      (so : (i : ℕ) → i < gap_places → OfGap gaps count lines i (bar_at bars i))
    where
      pub gaps_are : GapBars b count lines bars
      gaps_are =
          record {
            has = λ _ x m.
                let met = are.has (ports_from count lines x) few m in
                let q = so met.0 met.1 in
                record { place = met.0; below = met.1; short = q.short; lies = q.has x met.2 };
            only = λ _ x l. are.only (ports_from count lines x) few (l.place, l.below, (so l.place l.below).only x l.lies);
          }
