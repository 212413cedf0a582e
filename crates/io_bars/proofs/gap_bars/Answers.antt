-- `io_bars::gap_bars` meets its contract: each gap passed has its bar.
-- Assumes nothing.
use Rattle.facts.proofs.Words.{◌<◌, arith}
use Rattle.facts.specs.{most_lines}
use Rattle.layout.proofs.{size_in, sound_in}
use Rattle.io_bars.proofs.{gaps_are}
use Rattle.io_bars.proofs.gap_bars.Goals as goal

pub fill-requires-clause-ranges : goal.fill-requires-clause-ranges
fill-requires-clause-ranges c =
    let b = c.args.t.now in
    let sound = sound_in b c.requires.0 in (size_in b c.requires.0, sound.ranges_most, sound.ranges)

pub returns : goal.returns
returns c =
    let few : c.args.lines < most_lines = omega (arith, c.if-lines-eq-MOST_LINES.false, c.requires.3) in
    gaps_are c.args.t.now _ _ c.fill.new.self (c.fill.ensures few) few c.loop-i.bars (λ i l. c.loop-i.invariant i (omega (arith, c.loop-i-test.false)))
