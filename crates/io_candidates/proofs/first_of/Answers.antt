-- `io_candidates::first_of` meets its contract: none of the ranges passed has a candidate that starts in it.
-- Assumes nothing.
use Rattle.facts.proofs.Words.{sym, ◌∙◌, ◌<◌, arith}
use Rattle.layout.specs.{ranges_in}
use Rattle.layout.proofs.{size_in, sound_in}
use Rattle.table_read.proofs.{so_far_more}
use Rattle.io_candidates.proofs.{lowest_of, none_of, none_found}
use Rattle.io_candidates.proofs.first_of.Goals as goal

pub byte-ranges-requires : goal.byte-ranges-requires
byte-ranges-requires c = omega (arith, size_in c.args.t.now c.requires.accepted)

pub returns-then-is_some : goal.returns-then-is_some
returns-then-is_some c =
    let k = c.loop-i in
    let w = c.args.search.now.wanted in
    let listed : k.i < ranges_in c.args.t.now = omega (arith, c.byte-ranges.ensures.0, c.loop-i-test.true) in
    record {
      lowest =
          lowest_of _ (sound_in c.args.t.now c.requires.accepted).ranges _ _ _ _ w.ports.0 k.i _ listed k.invariant.0.each
          (sym c.is_some.ensures ∙ c.if-is_some.true) c.first_in-found.ensures.lowest;
      bars = c.first_in-found.ensures.bars;
    }

pub loop-i-preserved : goal.loop-i-preserved
loop-i-preserved c = (
  so_far_more c.loop-i.invariant.0 c.loop-i-test.true (none_found _ _ (sym c.is_some.ensures ∙ c.if-is_some.false) c.first_in-found.ensures.lowest),
  c.first_in-found.ensures.bars,
)

pub returns : goal.returns
returns c =
    let k = c.loop-i in
    let w = c.args.search.now.wanted in
    record {
      lowest =
          none_of _ (sound_in c.args.t.now c.requires.accepted).ranges _ _ _ _ w.ports.0 k.i (omega (arith, c.byte-ranges.ensures.0, c.loop-i-test.false))
          k.invariant.0.each;
      bars = k.invariant.1;
    }
