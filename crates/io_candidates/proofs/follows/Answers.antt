-- `io_candidates::follows` meets its contract: the range is listed, starts there, and its mark is no more than that.
-- Assumes nothing.
use Rattle.facts.proofs.Words.{◌<◌, arith}
use Rattle.layout.specs.{ranges_in}
use Rattle.layout.proofs.{size_in, range_placed}
use Rattle.io_candidates.proofs.follows.Goals as goal

pub byte-requires : goal.byte-requires
byte-requires c = omega (arith, size_in c.args.t.now c.requires)

pub word-requires : goal.word-requires
word-requires c =
    let t = c.args.t.now in
    let listed : c.args.j < ranges_in t = omega (arith, c.byte.ensures.0, c.if-byte-j.false) in
    omega (arith, range_placed t c.requires c.args.j listed, size_in t c.requires)

pub byte-requires-then-word-end : goal.byte-requires-then-word-end
byte-requires-then-word-end c =
    let t = c.args.t.now in
    let listed : c.args.j < ranges_in t = omega (arith, c.byte.ensures.0, c.if-byte-j.false) in
    omega (arith, range_placed t c.requires c.args.j listed, size_in t c.requires)
