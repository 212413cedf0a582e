-- `io_candidates::reach` meets its contract: the walk has come to the range `j`, and the ports before `end` count.
-- Assumes nothing.
use Rattle.facts.proofs.Words.{sym, subst, ℕ, ◌+◌, arith}
use Rattle.facts.proofs.{says_yes, says_no}
use Rattle.layout.proofs.{size_in, sound_in, range_placed}
use Rattle.io_candidates.proofs.{Run, run_start, run_more, reach_stopped}
use Rattle.io_candidates.proofs.reach.Goals as goal

pub word-end-requires : goal.word-end-requires
word-end-requires c =
    let t = c.args.t.now in omega (arith, range_placed t c.requires.0 c.args.i c.requires.1, size_in t c.requires.0)

pub loop-end-init : goal.loop-end-init
loop-end-init c =
    let a = c.args in
    let ordered = (sound_in a.t.now c.requires.0).ranges in
    subst (λ (end : ℕ). Run a.t.now a.i a.most a.i end) (sym c.word-end.ensures.0) (run_start a.t.now ordered a.i a.most c.requires.1)

pub returns-then-not-follows : goal.returns-then-not-follows
returns-then-not-follows c =
    let a = c.args in
    let k = c.loop-end in
    let ordered = (sound_in a.t.now c.requires.0).ranges in
    reach_stopped a.t.now ordered a.i a.most k.j k.end k.invariant a.want c.loop-end-test.true (says_no c.follows.ensures c.if-not-follows.true)

pub range_end-end-requires : goal.range_end-end-requires
range_end-end-requires c =
    let t = c.args.t.now in
    let follows = says_yes c.follows.ensures c.if-not-follows.false in
    (size_in t c.requires.0, range_placed t c.requires.0 _ follows.listed)

pub loop-end-preserved : goal.loop-end-preserved
loop-end-preserved c =
    let a = c.args in
    let k = c.loop-end in
    let ordered = (sound_in a.t.now c.requires.0).ranges in
    let follows = says_yes c.follows.ensures c.if-not-follows.false in
    subst (λ (end : ℕ). Run a.t.now a.i a.most (k.j + 1) end) (sym c.range_end-end.ensures)
    (run_more a.t.now ordered a.i a.most k.j k.end k.invariant follows)
