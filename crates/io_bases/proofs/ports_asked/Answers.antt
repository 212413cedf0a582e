-- `io_bases::ports_asked` meets its contract: a port lies past the last one, or one where the card answers is not managed, or all are.
-- Assumes nothing.
use Rattle.facts.proofs.Words.{refl, ◌+◌, ◌<◌, arith}
use Rattle.facts.specs.{all_ports}
use Rattle.facts.proofs.{says_yes, says_no}
use Rattle.layout.proofs.{size_in, sound_in}
use Rattle.io_bases.proofs.{all_managed}
use Rattle.io_bases.proofs.Said.{unmanaged}
use Rattle.io_bases.proofs.ports_asked.Goals as goal

pub fill-requires-clause-ranges : goal.fill-requires-clause-ranges
fill-requires-clause-ranges c =
    let sound = sound_in c.args.t.now c.requires.0 in (size_in c.args.t.now c.requires.0, sound.ranges_most, sound.ranges)

pub managed-requires-clause-ranges : goal.managed-requires-clause-ranges
managed-requires-clause-ranges c =
    let sound = sound_in c.args.t.now c.requires.0 in
    (size_in c.args.t.now c.requires.0, sound.ranges_most, sound.ranges, c.fill.ensures)

pub returns-then-not-managed : goal.returns-then-not-managed
returns-then-not-managed c =
    let within : all_ports < c.args.asked.base + c.args.asked.count → ⊥ = λ l. omega (arith, c.if-ports-gt-ALL_PORTS.false) in
    (refl, λ a. unmanaged c.args.t.now c.args.asked a within (says_no c.managed.ensures c.if-not-managed.true))

pub returns : goal.returns
returns c =
    let within : all_ports < c.args.asked.base + c.args.asked.count → ⊥ = λ l. omega (arith, c.if-ports-gt-ALL_PORTS.false) in
    λ a. all_managed c.args.t.now c.args.asked a within (says_yes c.managed.ensures c.if-not-managed.false)
