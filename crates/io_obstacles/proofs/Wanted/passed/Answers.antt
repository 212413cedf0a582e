-- `io_obstacles::Wanted::passed` meets its contract: for bars with periods so short, the search has passed every multiple before `base`, and what is known
-- is barred.
-- Assumes nothing.
use Rattle.facts.proofs.Words.{◌≡◌, ℕ, ◌+◌, ◌^◌, ◌≤◌, arith, pow_mono}
use Rattle.io_obstacles.specs.{Stretch, Wanted, Bars, LiesInBars, Opened, Period, LearntIs, Barring, grant_places}
use Rattle.io_obstacles.proofs.{Gone, gone_start, gone_along, gone_as, rows_repeat, bars_more, learnt_barring, nowhere_barring, barring_as}
use Rattle.io_obstacles.proofs.Wanted.passed.Invariants.{So}
use Rattle.io_obstacles.proofs.Wanted.passed.Goals as goal

so_on : (grants : Bars grant_places) (w : Wanted) (most base : ℕ) (known : Stretch) → So grants w most base known → So grants w (most + 1) base known
so_on grants w most base known s =
    let longer : 2 ^ most ≤ 2 ^ (most + 1) = pow_mono (omega arith) in
    record { limit = s.limit; within = s.within; short = omega (arith, s.short); gone = s.gone; bars = s.bars }

-- and so for the bars that count
so_barring : (grants : Bars grant_places) (w : Wanted) (most base : ℕ) (known : Stretch) → So grants w most base known
    → Barring (LiesInBars grants w.limit) w.step known
so_barring grants w most base known s = barring_as w.step known (bars_more grants s.limit w.limit s.within) s.bars

-- before any period is looked at
so_none : (grants : Bars grant_places) (w : Wanted) (known : Stretch) → (known.start ≡ 0) × (known.ones ≡ 0) × (known.width ≡ 0)
    → So grants w 1 0 known
so_none grants w known none =
    record {
      limit = 0;
      within = omega arith;
      short = omega arith;
      gone = gone_start _ _ _ (record { times = 0; is = omega arith }) (omega arith);
      bars = nowhere_barring _ w.step known none;
    }

-- a period was looked at: its limit is one of those that count, and no shorter than those before it; what the search passed in this period, and what it
-- learnt of it
so_learnt : (grants : Bars grant_places) (w : Wanted) (most base : ℕ) (known : Stretch) → So grants w most base known
    → (limit long end run : ℕ) → limit ≤ w.limit → limit + 1 ≡ 2 ^ most → Period limit w.step long
    → Opened (LiesInBars grants limit) w.step w.count base end run → (learnt : Stretch) → LearntIs known 0 run long learnt
    → So grants w most run learnt
so_learnt grants w most base known s limit long end run counts is period o learnt l =
    let longer : s.limit ≤ limit = omega (arith, s.short) in
    let gone : Gone (LiesInBars grants limit) w.step 0 run =
    gone_along _ _ _ base (gone_as _ _ _ (bars_more _ _ _ longer) s.gone) run o.past o.barred o.multiple o.near in
    record {
      limit = limit;
      within = counts;
      short = omega arith;
      gone = gone;
      bars =
          learnt_barring {Bar = LiesInBars grants limit} (λ x b. b) (rows_repeat grants limit w.step long period) period known learnt 0 run
          (barring_as _ _ (bars_more _ _ _ longer) s.bars) gone.barred l;
    }

pub loop-most-init : goal.loop-most-init
loop-most-init c = so_none _ _ _ c.nowhere-known.ensures

pub returns-then-everywhere : goal.returns-then-everywhere
returns-then-everywhere c =
    so_barring _ _ _ _ _
    (so_learnt _ _ _ _ _ c.loop-most.invariant _ _ _ _ c.if-self-limit.false c.limit_of-limit.ensures c.period-long.ensures c.run_end-base.ensures _
    c.learnt-known.ensures)

pub loop-most-preserved : goal.loop-most-preserved
loop-most-preserved c =
    so_on _ _ _ _ _
    (so_learnt _ _ _ _ _ c.loop-most.invariant _ _ _ _ c.if-self-limit.false c.limit_of-limit.ensures c.period-long.ensures c.run_end-base.ensures _
    c.learnt-known.ensures)
