-- `table_ios::io_place_sound` meets its contract: a record without a client is zero, and one with a client is a grant if each test passes.
-- Assumes nothing.
use Rattle.facts.proofs.Words.{sym, ap, ◌∙◌, subst, List, ℕ, ◌+◌, ◌≤◌, arith, rules, Says}
use Rattle.facts.specs.declared.Ports.{Ports}
use Rattle.facts.specs.{byte, long, IoGrant}
use Rattle.facts.proofs.{says_yes, says_no}
use Rattle.layout.specs.{io_size, io_place_lem, io_shared_at, io_spare_at, IoUsed, Zero, LiveIn}
use Rattle.table_read.proofs.{place_false, place_says, long_zero}
use Rattle.table_ios.specs.{RangeHas, PortsSound}
use Rattle.seats.proofs.{ports_held, client_held, lines_held, held_fits}
use Rattle.table_ios.proofs.io_place_sound.Goals as goal

-- a record with a client isn't zero
not_zero : (b : List ℕ) (s : ℕ) → IoUsed b s → Zero b (io_place_lem s) (io_place_lem s + io_size) → ⊥
not_zero b s used z =
    let at = io_place_lem s in
    used (omega (arith, z at (omega arith) (omega arith), z (at + 1) (omega arith) (omega arith)))

pub returns-else-live : goal.returns-else-live
returns-else-live c =
    let b = c.args.t.now in
    let there = c.in-Some.ensures in
    rw c.if-live.false
    (place_false (not_zero _ _ there.0)
    (λ p. says_no c.live.ensures c.if-live.false (subst (LiveIn b) (sym (client_held _ _ _ there)) p.client)))

pub ports_sound-requires-clause-ranges : goal.ports_sound-requires-clause-ranges
ports_sound-requires-clause-ranges c =
    let sound = c.requires.sound in
    let there = c.in-Some.ensures in
    (sound.0, sound.2.ranges_most, sound.4, rw (lines_held _ _ _ there) (c.requires.gaps_serve.0 _ sound.1 there.0))

pub ports_sound-requires-clause-ports : goal.ports_sound-requires-clause-ports
ports_sound-requires-clause-ports c =
    let there = c.in-Some.ensures in
    let fits = held_fits _ _ _ there (λ i. omega (arith, c.type_inv.t i)) in
    (fits.0, fits.1, subst (λ (x : IoGrant). RangeHas c.args.t.now c.args.near x.ports) (sym there.1) (c.requires.gaps_serve.1 there.0))

pub returns-then-live : goal.returns-then-live
returns-then-live c =
    let b = c.args.t.now in
    let there = c.in-Some.ensures in
    let place = c.io_place-at.ensures.0 in
    let at = io_place_lem c.args.s.number in
    let socket = c.requires.sound.1 in
    let live = subst (LiveIn b) (client_held _ _ _ there) (says_yes c.live.ensures c.if-live.true) in
    let mark : byte b (at + io_shared_at) ≤ 1 =
    omega (arith, c.if-byte-gt-MARKED.false, c.byte.ensures.0 ∙ ap (λ (p : ℕ). byte b (p + io_shared_at)) place) in
    let none = sym (c.long.ensures.0 ∙ ap (λ (p : ℕ). long b (p + io_spare_at)) place) ∙ c.if-long-ne0.false in
    let spare = long_zero b (at + io_spare_at) (at + io_size) (omega arith) none in
    let sound = subst (λ (p : Ports). Says c.ports_sound.result (PortsSound b p)) (ports_held _ _ _ there) c.ports_sound.ensures in
    place_says (not_zero _ _ there.0) sound (λ p. (there.0, search rules)) (λ p. search rules)
