-- `io_candidates::first` meets its contract: the search in unreserved ranges first, and then the search in all of them.
-- Assumes nothing.
use Rattle.facts.proofs.Words.{sym, ◌∙◌, arith}
use Rattle.facts.proofs.{says_no}
use Rattle.table_read.proofs.{so_far_more}
use Rattle.io_candidates.proofs.{first_by, none_marked, none_found}
use Rattle.io_candidates.proofs.first.Goals as goal

pub returns-then-not-some_marked : goal.returns-then-not-some_marked
returns-then-not-some_marked c =
    none_marked _ _ _ _ c.loop-most.most (says_no c.some_marked.ensures c.if-not-some_marked.true) c.loop-most.invariant.0.each
    c.args.search.now.wanted.ports.0

pub returns-then-is_some : goal.returns-then-is_some
returns-then-is_some c =
    first_by _ _ _ _ c.loop-most.most (omega (arith, c.loop-most-test.true)) c.loop-most.invariant.0.each _ (sym c.is_some.ensures ∙ c.if-is_some.true)
    c.first_of-found.ensures.lowest

pub loop-most-preserved : goal.loop-most-preserved
loop-most-preserved c = (
  so_far_more c.loop-most.invariant.0 (omega (arith, c.loop-most-test.true)) (none_found _ _ (sym c.is_some.ensures ∙ c.if-is_some.false) c.first_of-found.ensures.lowest),
  c.first_of-found.ensures.bars,
)

pub returns : goal.returns
returns c = c.loop-most.invariant.0.each 1 (omega (arith, c.loop-most-test.false))
