-- What bars a base repeats: where a search found none free between two bases, there is none between them after each period. Assumes nothing.
use Rattle.facts.proofs.Words.{◌≡◌, ap, sym, subst, ◌∙◌, inl, inr, Bool, ℕ, ◌+◌, ◌-◌, ◌%◌, ◌^◌, ◌≤◌, ◌<◌, max, add-mod-mod, mod-add-mod, dec_le, arith}
use Rattle.facts.specs.{all_ports}
use Rattle.io_ranges.proofs.{all_ports_mod, mod_fewer}
use Rattle.io_obstacles.specs.Unique.{power_lines}
use Rattle.io_obstacles.specs.{around, Power, Multiple, Period, LiesFrom, Bars, bar_at, LiesInBars, Stretch, Lies, StretchFits, Barring, Repeats}
use Rattle.io_obstacles.specs.{StretchBetween, LearntIs, grant_places, gap_places, Search, BarredBy, Barred}
use Rattle.io_obstacles.proofs.Searching.{AllBarred}
use Rattle.io_obstacles.proofs.Steps.{multiple_mod, mod_multiple}

-- what is equal to a multiple of the step modulo a period is one
multiple_as : (step k x y : ℕ) (p : Power step) → p.lines ≤ k → x % 2 ^ k ≡ y % 2 ^ k → Multiple step x → Multiple step y
multiple_as step k x y p l e m =
    mod_multiple step y
    (ap (λ (n : ℕ). y % n) p.is ∙ sym (mod_fewer x y p.lines k l e) ∙ ap (λ (n : ℕ). x % n) (sym p.is) ∙ multiple_mod step x m)

-- the larger of the two powers is one
pub period_is : (limit step period : ℕ) → Power (limit + 1) → Power step → period ≡ max step (limit + 1) → Period limit step period
period_is limit step period s p l = within_or_not (dec_le (limit + 1) step)
  where
    within_or_not : Dec (limit + 1 ≤ step) → Period limit step period
    within_or_not (yes k) =
        record {
          power = record { lines = p.lines; most = p.most; is = omega (arith, p.is, l) };
          short = s;
          step_power = p;
          decides = power_lines (limit + 1) step s p k;
          steps = omega arith;
        }
    within_or_not (no k) =
        record {
          power = record { lines = s.lines; most = s.most; is = omega (arith, s.is, l) };
          short = s;
          step_power = p;
          decides = omega arith;
          steps = power_lines step (limit + 1) p s (omega arith);
        }

-- what lies past a start repeats after each period, and after each longer one
lies_repeat : (start ones width period : ℕ) (p : Power period) (short : Power (ones + 1)) → start ≤ around → short.lines ≤ p.lines
    → Repeats (LiesFrom start ones width) period
lies_repeat start ones width period p short near l x y e lies = rw (← same) lies
  where
    k : ℕ
    k = short.lines

    fewer : x % 2 ^ k ≡ y % 2 ^ k
    fewer = mod_fewer x y k p.lines l (subst (λ (n : ℕ). x % n ≡ y % n) p.is e)

    moved : (n : ℕ) → n + around - start ≡ n + (around - start)
    moved n = omega (arith, near)

    same : (x + around - start) % (ones + 1) ≡ (y + around - start) % (ones + 1)
    same =
        rw (short.is, moved x, moved y)
        (sym (mod-add-mod x (2 ^ k) (around - start)) ∙ ap (λ (n : ℕ). (n + (around - start)) % 2 ^ k) fewer
        ∙ mod-add-mod y (2 ^ k) (around - start))

-- so does a stretch
pub stretch_repeats : (s : Stretch) (period : ℕ) (p : Power period) (fit : StretchFits s) → fit.period.lines ≤ p.lines → Repeats (Lies s) period
stretch_repeats s period p fit l = lies_repeat s.start s.ones s.width period p fit.period fit.start l

-- so do bars whose periods are no longer
pub rows_repeat : {N : ℕ} (bars : Bars N) (limit step period : ℕ) → Period limit step period → Repeats (LiesInBars bars limit) period
rows_repeat bars limit step period p x y e l =
    let bar = bar_at bars l.place in
    let short = bars.powers l.place l.below in
    let fewer : short.lines ≤ p.short.lines = power_lines (bar.ones + 1) (limit + 1) short p.short (omega (arith, l.short)) in
    record {
      place = l.place;
      below = l.below;
      short = l.short;
      lies = lies_repeat bar.start bar.ones bar.width period p.power short (bars.near l.place l.below) (omega (arith, fewer, p.decides)) x y e l.lies;
    }

pub bars_repeat : (grants : Bars grant_places) (gaps : Bars gap_places) (counted : Bool) (limit step period : ℕ) → Period limit step period
    → Repeats (BarredBy grants gaps counted limit) period
bars_repeat grants gaps counted limit step period p x y e (inl l) = inl (rows_repeat grants limit step period p x y e l)
bars_repeat grants gaps counted limit step period p x y e (inr l) = inr (l.0, rows_repeat gaps limit step period p x y e l.1)

-- and so does what bars a search
pub barred_repeat : (s : Search) (period : ℕ) → Period s.wanted.limit s.wanted.step period → Repeats (Barred s) period
barred_repeat s period p = bars_repeat s.grants.now s.gaps.now s.wanted.gaps s.wanted.limit s.wanted.step period p

-- bars with short periods are among those with longer ones
pub bars_more : {N : ℕ} (bars : Bars N) (few limit : ℕ) → few ≤ limit → (x : ℕ) → LiesInBars bars few x → LiesInBars bars limit x
bars_more bars few limit h x l = record { place = l.place; below = l.below; short = omega (arith, l.short); lies = l.lies }

-- a multiple between two bases that is equal to x modulo the period
record Moved (step from to period x : ℕ) : Type 0 where
  base : ℕ
  multiple : Multiple step base
  past : from ≤ base
  before : base < to
  same : base % period ≡ x % period

-- the stretch between two bases fits
between_fits : (from to period : ℕ) → Power period → (r : Stretch) → StretchBetween from to period r → StretchFits r
between_fits from to period power r w =
    record { start = omega (arith, w.start, w.within); period = rw w.ones power; width = omega (arith, w.within) }

-- and what lies in it is equal to a base between them
between_moved : (from to period : ℕ) (power : Power period) (r : Stretch) → StretchBetween from to period r → (step : ℕ) (p : Power step)
    → p.lines ≤ power.lines → (x : ℕ) → Multiple step x → Lies r x → Moved step from to period x
between_moved from to period power r w step p steps x m l =
    record {
      base = y;
      multiple = multiple_as step k x y p steps same m;
      past = omega arith;
      before = omega (arith, short, w.ends);
      same = subst (λ (n : ℕ). y % n ≡ x % n) (sym power.is) (sym same);
    }
  where
    k : ℕ
    k = power.lines

    j : ℕ
    j = (x + around - from) % 2 ^ k

    y : ℕ
    y = from + j

    short : j < r.width
    short =
        subst (λ (n : ℕ). (x + around - from) % n < r.width) (w.ones ∙ power.is)
        (subst (λ (n : ℕ). (x + around - n) % (r.ones + 1) < r.width) w.start l)

    same : x % 2 ^ k ≡ y % 2 ^ k
    same =
        let turned : from + (x + around - from) ≡ x + all_ports + all_ports = omega (arith, w.within) in
        sym
        (add-mod-mod from (x + around - from) (2 ^ k) ∙ ap (λ (n : ℕ). n % 2 ^ k) turned
        ∙ all_ports_mod k power.most (x + all_ports)
        ∙ all_ports_mod k power.most x)

-- a search that found none free has passed a stretch; where what it passed repeats, the stretch is barred
pub learnt_barring : {Bar Run : ℕ → Type 0} {limit step period : ℕ} → ((x : ℕ) → Run x → Bar x) → Repeats Run period → Period limit step period
    → (known r : Stretch) (from to : ℕ) → Barring Bar step known → AllBarred Run step from to → LearntIs known from to period r → Barring Bar step r
learnt_barring {Bar} {step = step} among repeats p known r from to bars passed (inl e) = subst (Barring Bar step) (sym e) bars
learnt_barring {step = step} {period = period} among repeats p known r from to bars passed (inr w) =
    record {
      fits = between_fits from to period p.power r w;
      barred = λ x m l.
          let y = between_moved from to period p.power r w step p.step_power p.steps x m l in
          among x (repeats y.base x y.same (passed y.base y.multiple y.past y.before));
    }

-- nothing is known yet
pub nowhere_barring : (Bar : ℕ → Type 0) (step : ℕ) (r : Stretch) → (r.start ≡ 0) × (r.ones ≡ 0) × (r.width ≡ 0) → Barring Bar step r
nowhere_barring Bar step r e =
    record {
      fits = record {
        start = omega (arith, e.0);
        period = record { lines = 0; most = omega arith; is = omega (arith, e.1) };
        width = omega (arith, e.2);
      };
      barred = λ x m l. absurd (omega (arith, e.2, l));
    }

-- what is barred by one predicate is by another that says less
pub barring_as : {Bar Bar' : ℕ → Type 0} (step : ℕ) (r : Stretch) → ((x : ℕ) → Bar x → Bar' x) → Barring Bar step r → Barring Bar' step r
barring_as step r so bars = record { fits = bars.fits; barred = λ x m l. so x (bars.barred x m l) }
