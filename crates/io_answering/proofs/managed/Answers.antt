-- `io_answering::managed` meets its contract: with all lines decoded its own ports decide; with fewer, the gaps do.
-- Assumes nothing.
use Rattle.facts.proofs.Words.{◌<◌, arith}
use Rattle.facts.specs.{most_lines}
use Rattle.io_answering.proofs.{clear_says, gaps_say}
use Rattle.io_answering.proofs.managed.Goals as goal

pub returns : goal.returns
returns c =
    let a = c.args.ports in
    let fewer : a.lines < most_lines = omega (arith, c.if-ports-eq-MOST_LINES.false, c.requires.ports.3) in
    clear_says c.args.t.now c.requires.ranges.2 a c.requires.ports.3 (omega (arith, c.if-ports-gt-ALL_PORTS.false))
    (gaps_say c.args.t.now c.args.gaps.now a fewer c.requires.ranges.3 c.clear.ensures)
