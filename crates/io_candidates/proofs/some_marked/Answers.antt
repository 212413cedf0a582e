-- `io_candidates::some_marked` meets its contract: none of the ranges passed has such a mark.
-- Assumes nothing.
use Rattle.facts.proofs.Words.{◌<◌, arith}
use Rattle.layout.specs.{ranges_in}
use Rattle.layout.proofs.{size_in, range_placed}
use Rattle.io_candidates.proofs.some_marked.Goals as goal

pub byte-ranges-requires : goal.byte-ranges-requires
byte-ranges-requires c = omega (arith, size_in c.args.t.now c.requires)

pub byte-requires : goal.byte-requires
byte-requires c =
    let t = c.args.t.now in
    let listed : c.loop-i.i < ranges_in t = omega (arith, c.byte-ranges.ensures.0, c.loop-i-test.true) in
    omega (arith, range_placed t c.requires c.loop-i.i listed, size_in t c.requires)
