-- `io_obstacles::Search::lowest` meets its contract: the search has come to the multiple `base`, and every one before it is barred; so is what is known.
-- Assumes nothing.
use Rattle.facts.proofs.Words.{inl, ℕ, ◌+◌, ◌≤◌, arith}
use Rattle.io_obstacles.specs.{Stretch, Search, LiesInBars, Opened, Period, LearntIs, Barring, Barred}
use Rattle.io_obstacles.proofs.{power_most, leap_barred, Gone, gone_on, gone_along, gone_free, gone_past, rows_repeat, bars_more, learnt_barring}
use Rattle.io_obstacles.proofs.Search.lowest.Goals as goal

-- a turn that goes along a run of bars that come again soonest: what these bar is barred
module _ (s : Search) (from base end run : ℕ) (gone : Gone (Barred s) s.wanted.step from base)
    (o : Opened (LiesInBars s.grants.now s.wanted.few) s.wanted.step s.wanted.count base end run)
  where
    short_barred : (x : ℕ) → LiesInBars s.grants.now s.wanted.few x → Barred s x
    short_barred x l = inl (bars_more _ _ _ s.wanted.fewer x l)

    along : Gone (Barred s) s.wanted.step from run
    along = gone_along _ _ _ base gone run o.past (λ y m f l. short_barred y (o.barred y m f l)) o.multiple o.near

    learns : (known learnt : Stretch) (again : ℕ) → Barring (Barred s) s.wanted.step known → Period s.wanted.few s.wanted.step again
        → LearntIs known base run again learnt → Barring (Barred s) s.wanted.step learnt
    learns known learnt again bars p is = learnt_barring short_barred (rows_repeat _ _ _ _ p) p known learnt base run bars o.barred is

pub loop-base-preserved-then-near-ne0 : goal.loop-base-preserved-then-near-ne0
loop-base-preserved-then-near-ne0 c =
    let known = c.loop-base.invariant.1 in (
      gone_on _ _ _ c.loop-base.base c.loop-base.invariant.0 (c.loop-base.base + c.ahead-near.result) c.up-base.result (omega arith)
          (λ y m f l. known.barred y m (leap_barred _ _ _ c.ahead-near.ensures y m f l)) c.up-base.ensures
          (omega (arith, c.up-base.ensures.near, c.loop-base-test.true, c.requires.multiple.2, c.ahead-near.ensures.most, power_most _ c.args.self.now.wanted.step_power)),
      known,
    )

pub returns-then-end-run : goal.returns-then-end-run
returns-then-end-run c =
    let s = c.args.self.now in
    let k = c.loop-base in
    let o = c.run_end-run.ensures in
    record {
      opened = gone_past _ _ _ _ (along s _ _ _ _ k.invariant.0 o) _ _ (omega (arith, c.if-end-run.true));
      known = learns s _ _ _ _ k.invariant.0 o _ _ _ k.invariant.1 c.period-again.ensures c.learnt-known.ensures;
    }

pub returns-then-far-eq0 : goal.returns-then-far-eq0
returns-then-far-eq0 c =
    let s = c.args.self.now in
    let k = c.loop-base in
    let o = c.run_end-run.ensures in
    record {
      opened = gone_free _ _ _ _ (along s _ _ _ _ k.invariant.0 o) _ _ (c.leap-far.ensures.none c.if-far-eq0.true);
      known = learns s _ _ _ _ k.invariant.0 o _ _ _ k.invariant.1 c.period-again.ensures c.learnt-known.ensures;
    }

pub loop-base-preserved : goal.loop-base-preserved
loop-base-preserved c =
    let s = c.args.self.now in
    let k = c.loop-base in
    let o = c.run_end-run.ensures in
    let run_below : c.run_end-run.result + s.wanted.count ≤ c.args.end = omega (arith, c.if-end-run.false) in (
      gone_on _ _ _ c.run_end-run.result (along s _ _ _ _ k.invariant.0 o) (c.run_end-run.result + c.leap-far.result)
          c.up-base-in-loop-base.result (omega arith) (leap_barred _ _ _ c.leap-far.ensures) c.up-base-in-loop-base.ensures
          (omega (arith, c.up-base-in-loop-base.ensures.near, run_below, c.requires.multiple.2, c.leap-far.ensures.most, power_most _ s.wanted.step_power)),
      learns s _ _ _ _ k.invariant.0 o _ _ _ k.invariant.1 c.period-again.ensures c.learnt-known.ensures,
    )
