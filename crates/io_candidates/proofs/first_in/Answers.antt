-- `io_candidates::first_in` meets its contract: those that start in the range are those between its first multiple and where the ports that count end.
-- Assumes nothing.
use Rattle.facts.proofs.Words.{◌≡◌, ap, ◌∙◌, subst, List, ℕ, ◌+◌, ◌-◌, ◌<◌, max, arith}
use Rattle.layout.specs.Sound.{Sound}
use Rattle.layout.specs.{ranges_in, range_base}
use Rattle.layout.proofs.{sound_in, range_end, range_placed}
use Rattle.std.specs.Prelude.{Option, Some, None}
use Rattle.io_obstacles.specs.{Search, FirstMultiple, Barred}
use Rattle.io_obstacles.proofs.{barred_repeat, learnt_barring}
use Rattle.io_candidates.specs.{ReachIs, FreeBetween, StartsIn, LowestIs}
use Rattle.io_candidates.proofs.{open_found, open_none, lowest_in}
use Rattle.io_candidates.proofs.first_in.Goals as goal

-- a sound table: from the first multiple at or past the range's base, up to where the ports that count end, what a search finds is the lowest candidate
-- that starts in the range
found : (b : List ℕ) → Sound b → (s : Search) (i most : ℕ) → i < ranges_in b → (base larger from : ℕ) → base ≡ range_base b i → larger ≡ max base 1
    → FirstMultiple larger s.wanted.step from → (past end : ℕ) → past ≡ range_end b i → ReachIs b i most (past + s.wanted.count - 1) end
    → (x : Option ℕ) → LowestIs (FreeBetween (Barred s) s.wanted.count s.wanted.step from end) x
    → LowestIs (StartsIn b (Barred s) i most s.wanted.count s.wanted.step) x
found b sound s i most listed base larger from e f first past end g reached =
    lowest_in b sound.ranges (Barred s) most s.wanted.count s.wanted.step s.wanted.ports.0 i from end listed
    (subst (λ (n : ℕ). FirstMultiple n s.wanted.step from) (f ∙ ap (λ (n : ℕ). max n 1) e) first)
    (subst (λ (n : ℕ). ReachIs b i most (n + s.wanted.count - 1) end) g reached)

pub word-base-requires : goal.word-base-requires
word-base-requires c =
    let a = c.requires.accepted in
    let t = c.args.t.now in omega (arith, range_placed t a.0 c.args.i a.1, (sound_in t a.0).size)

pub range_end-requires : goal.range_end-requires
range_end-requires c =
    let a = c.requires.accepted in
    let t = c.args.t.now in ((sound_in t a.0).size, range_placed t a.0 c.args.i a.1)

pub returns-then-open-count : goal.returns-then-open-count
returns-then-open-count c =
    let a = c.requires.accepted in
    let o = c.lowest-open.ensures in
    record {
      lowest =
          found c.args.t.now (sound_in c.args.t.now a.0) c.args.search.now _ _ a.1 _ _ _ c.word-base.ensures.0 c.max.ensures c.up-from.ensures _ _
          c.range_end.ensures c.reach-end.ensures (Some c.lowest-open.result.base) (open_found _ _ _ _ _ _ o.opened c.if-open-count.true);
      bars = o.known;
    }

pub returns : goal.returns
returns c =
    let a = c.requires.accepted in
    let s = c.args.search.now in
    let o = c.lowest-open.ensures in
    let p = c.period-long.ensures in
    record {
      lowest =
          found c.args.t.now (sound_in c.args.t.now a.0) s _ _ a.1 _ _ _ c.word-base.ensures.0 c.max.ensures c.up-from.ensures _ _
          c.range_end.ensures c.reach-end.ensures None (open_none _ _ _ _ _ _ o.opened (omega (arith, c.if-open-count.false)));
      bars =
          learnt_barring {Bar = Barred s} (λ x b. b) (barred_repeat s _ p) p _ c.learnt.result c.up-from.result c.lowest-open.result.base o.known
          o.opened.barred c.learnt.ensures;
    }
