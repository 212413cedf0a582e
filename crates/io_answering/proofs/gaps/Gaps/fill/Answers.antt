-- `io_answering::gaps::Gaps::fill` meets its contract: the gaps passed are filled in, and `end` is where the ranges passed end.
-- Assumes nothing.
use Rattle.facts.proofs.Words.{◌≡◌, ◌<◌, arith}
use Rattle.layout.specs.{ranges_in}
use Rattle.io_answering.proofs.{filling_more, rows_are}
use Rattle.io_answering.proofs.Filling.{Filling}
use Rattle.io_answering.proofs.gaps.Gaps.fill.Goals as goal

pub loop-i-preserved : goal.loop-i-preserved
loop-i-preserved c =
    let listed : c.loop-i.i < ranges_in c.args.t.now = omega (arith, c.loop-i-test.true, c.byte-ranges.ensures.0) in
    filling_more _ _ c.enter.new.self c.requires.ranges.2 c.requires.ranges.1 c.loop-i.invariant listed c.word-start.ensures.0 c.range_end-end.ensures
    c.enter.ensures.here c.enter.ensures.others

pub returns : goal.returns
returns c =
    let f = c.loop-i.invariant in
    let all : c.loop-i.i ≡ ranges_in c.args.t.now = omega (arith, f.listed, c.loop-i-test.false, c.byte-ranges.ensures.0) in
    let walked : Filling c.args.t.now c.loop-i.self c.loop-i.end (ranges_in c.args.t.now) = rw all at f in
    λ l. rows_are _ _ _ c.requires.ranges.2 c.requires.ranges.1 _ walked c.enter-2.ensures.here c.enter-2.ensures.others
