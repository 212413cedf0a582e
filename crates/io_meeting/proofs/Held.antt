-- Ports meet those that are held at a seat, or some that are held, as what is held says. Assumes nothing.
use Rattle.facts.proofs.Words.{sym, ◌∙◌, subst, some-injective, Bool, ℕ, ◌≤◌, ◌<◌, arith, WellFormed, Says}
use Rattle.facts.specs.declared.Ports.{Ports}
use Rattle.facts.specs.{Facts, Seat, HeldPorts, Held, Meet, MeetsHeld, all_ports, most_lines, most_seats}
use Rattle.facts.proofs.{says_as}
use Rattle.io_meeting.specs.{MeetsAt}

module _ (F : Facts) (a : Ports) where
  pub meets_held : (s : Seat) (x : HeldPorts) → Held F s x → {r : Bool} → Says r (Meet a x.ports) → Says r (MeetsAt F a s)
  meets_held s x h m =
      says_as m (λ m. record { range = x; held = h; meets = m })
      (λ y. subst (λ (z : HeldPorts). Meet a z.ports) (some-injective y.range x (sym y.held ∙ h)) y.meets)

  module _ (f : WellFormed F) where
    -- a seat at which something is held is one of all seats
    pub meets_some : {r : Bool} → Says r ((s : ℕ) × (s < most_seats) × MeetsAt F a s) → Says r (MeetsHeld F a)
    meets_some m =
        says_as m (λ y. record { seat = y.0; range = y.2.range; held = y.2.held; meets = y.2.meets })
        (λ y. (
          y.seat,
          omega (arith, (f.ios y.seat y.range y.held).socket, f.sockets_most),
          record { range = y.range; held = y.held; meets = y.meets },
        ))

-- what is held are some of all ports
pub record Fits (x : HeldPorts) : Type 0 where
  pub base : x.ports.base < all_ports
  pub count : x.ports.count ≤ all_ports
  pub lines : x.ports.lines ≤ most_lines

pub held_fits : (F : Facts) → WellFormed F → (s : Seat) (x : HeldPorts) → Held F s x → Fits x
held_fits F f s x h =
    let g = f.ios s x h in
    let m = g.managed x.ports.base (record { from = omega arith; below = omega (arith, g.port) }) in
    record { base = omega (arith, m.has.below, f.ranges m.range m.listed); count = omega (arith, g.asked); lines = g.lines }
