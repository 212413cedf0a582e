-- `io_meeting::at` meets its contract: nothing is held at the seat, or the ports meet what is held there.
-- Assumes nothing.
use Rattle.std.specs.Prelude.{Some, None}
use Rattle.facts.proofs.Words.{sym, ◌∙◌, none-ne-some, arith}
use Rattle.facts.specs.{Held}
use Rattle.facts.proofs.{says_false}
use Rattle.layout.specs.{facts_in}
use Rattle.layout.proofs.{size_in}
use Rattle.seats.specs.{range}
use Rattle.seats.proofs.{formed_in, io_read}
use Rattle.io_meeting.proofs.{meets_held, held_fits}
use Rattle.io_meeting.proofs.at.Goals as goal

pub held-requires : goal.held-requires
held-requires c = size_in c.args.t.now c.requires.accepted

pub returns-in-None : goal.returns-in-None
returns-in-None c =
    let nothing = io_read c.args.t.now c.args.s.number c.args.s.in_table None c.in-None.ensures in
    says_false (λ x. none-ne-some x.range (sym nothing ∙ x.held))

pub meets-requires : goal.meets-requires
meets-requires c =
    let there : Held (facts_in c.args.t.now) c.args.s.number (range c.in-Some.held) = io_read _ _ c.args.s.in_table (Some c.in-Some.held) c.in-Some.ensures in
    let few = c.requires.few in
    let fits = held_fits _ (formed_in c.args.t.now c.requires.accepted) _ _ there in
    (few.0, few.1, few.2, fits.base, omega (arith, few.2, fits.lines), fits.count)

pub returns-in-Some : goal.returns-in-Some
returns-in-Some c =
    let there : Held (facts_in c.args.t.now) c.args.s.number (range c.in-Some.held) = io_read _ _ c.args.s.in_table (Some c.in-Some.held) c.in-Some.ensures in
    meets_held _ _ _ _ there c.meets.ensures
