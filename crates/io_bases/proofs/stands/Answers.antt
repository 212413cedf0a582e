-- `io_bases::stands` meets its contract: nothing is held there, it isn't met, or the two don't both share.
-- Assumes nothing.
use Rattle.facts.proofs.Words.{arith}
use Rattle.std.specs.Prelude.{Some, None}
use Rattle.facts.proofs.{says_false, says_false_by, says_yes}
use Rattle.layout.proofs.{size_in}
use Rattle.seats.specs.{range}
use Rattle.seats.proofs.{io_read}
use Rattle.io_bars.proofs.{seat_below, seat_fits}
use Rattle.io_bases.proofs.{none_stands, meets_stands, apart_says}
use Rattle.io_bases.proofs.stands.Goals as goal

pub held-requires : goal.held-requires
held-requires c = size_in c.args.t.now c.requires.0

pub returns-in_default : goal.returns-in_default
returns-in_default c = says_false (none_stands _ _ _ (io_read c.args.t.now c.args.s.number c.args.s.in_table None c.in_default.ensures))

pub meets-requires : goal.meets-requires
meets-requires c =
    let f = c.requires.1 in
    let fits = seat_fits c.args.t.now c.args.s.number c.args.s.in_table c.requires.0 (Some c.in-Some.x) c.in-Some.ensures in
    let below = seat_below c.args.t.now c.args.s.number c.args.s.in_table c.requires.0 (Some c.in-Some.x) c.in-Some.ensures in
    (f.base, omega (arith, f.ports), f.lines, below, fits.lines, omega (arith, fits.ports))

pub returns-then-meets : goal.returns-then-meets
returns-then-meets c =
    let found = io_read c.args.t.now c.args.s.number c.args.s.in_table (Some c.in-Some.x) c.in-Some.ensures in
    rw c.apart.ensures (apart_says _ _ _ (range c.in-Some.x) found (says_yes c.meets.ensures c.if-meets.true))

pub returns-else-meets : goal.returns-else-meets
returns-else-meets c =
    let found = io_read c.args.t.now c.args.s.number c.args.s.in_table (Some c.in-Some.x) c.in-Some.ensures in
    rw c.if-meets.false (says_false_by c.meets.ensures c.if-meets.false (meets_stands _ _ _ (range c.in-Some.x) found))
