-- The bases at which ports meet others are a bar. Assumes nothing.
use Rattle.facts.proofs.Words.{◌≡◌, ap, ◌∙◌, ℕ, ◌+◌, ◌-◌, ◌%◌, ◌^◌, ◌≤◌, ◌<◌, min, mod-eq_of_lt, pow_mono, dec_lt, arith}
use Rattle.facts.specs.declared.Ports.{Ports}
use Rattle.facts.specs.{all_ports, most_lines}
use Rattle.io_ranges.proofs.{meet_near, near_meet, all_ports_mod}
use Rattle.io_answering.specs.{ports_from}
use Rattle.io_obstacles.specs.{Bar, around}
use Rattle.io_bars.specs.{BarIs, PortsFit}

-- the start is taken modulo all ports, which changes nothing modulo a period
start_mod : (s x k : ℕ) → k ≤ most_lines → s ≤ around → (x + around - s % all_ports) % 2 ^ k ≡ (x + around - s) % 2 ^ k
start_mod s x k h l = below_or_not (dec_lt s all_ports) (dec_lt s around)
  where
    below_or_not : Dec (s < all_ports) → Dec (s < around) → (x + around - s % all_ports) % 2 ^ k ≡ (x + around - s) % 2 ^ k
    below_or_not (yes m) d = ap (λ (n : ℕ). (x + around - n) % 2 ^ k) (mod-eq_of_lt m)
    below_or_not (no m) (yes n) =
        let rest : s % all_ports ≡ s - all_ports = omega arith in
        let once : x + around - s % all_ports ≡ x + around - s + all_ports = omega (arith, rest) in
        ap (λ (n : ℕ). n % 2 ^ k) once ∙ all_ports_mod k h (x + around - s)
    below_or_not (no m) (no n) =
        let rest : s % all_ports ≡ 0 = omega arith in
        let twice : x + around - s % all_ports ≡ x + around - s + all_ports + all_ports = omega (arith, rest) in
        ap (λ (n : ℕ). n % 2 ^ k) twice ∙ all_ports_mod k h (x + around - s + all_ports) ∙ all_ports_mod k h (x + around - s)

module _ (g : Ports) (fit : PortsFit g) (count lines : ℕ) (some : 1 ≤ count) (few : count < 256) (lined : lines ≤ most_lines) (r : Bar)
    (start : r.start ≡ (g.base + all_ports + 1 - count) % all_ports) (ones : r.ones + 1 ≡ 2 ^ min lines g.lines)
  where
    abbrev k : ℕ
    k = min lines g.lines

    within : k ≤ most_lines
    within = omega (arith, lined)

    -- the last port of those asked for, past the others' base
    behind : (x : ℕ) → (x + around - r.start) % (r.ones + 1) ≡ (x + count - 1 + all_ports - g.base) % 2 ^ k
    behind x =
        let reach : x + around - (g.base + all_ports + 1 - count) ≡ x + count - 1 + all_ports - g.base = omega (arith, fit.base) in
        ap (λ (n : ℕ). (x + around - n) % (r.ones + 1)) start
        ∙ ap (λ (n : ℕ). (x + around - (g.base + all_ports + 1 - count) % all_ports) % n) ones
        ∙ start_mod (g.base + all_ports + 1 - count) x k within (omega (arith, fit.base))
        ∙ ap (λ (n : ℕ). n % 2 ^ k) reach

    -- without a port there is none to meet
    pub bar_is : (1 ≤ r.width → 1 ≤ g.count) → (1 ≤ g.count → r.width ≡ g.count + count - 1) → BarIs g count lines r
    bar_is held w =
        record {
          power = record { lines = k; most = within; is = ones };
          short = let no_more : 2 ^ k ≤ 2 ^ lines = pow_mono (omega arith) in omega (arith, ones, no_more);
          has = λ x m.
              let port : 1 ≤ g.count = omega (arith, m.other_in.from, m.other_in.below) in
              let l = meet_near (ports_from count lines x) g k (omega arith) within some port fit.base m in
              rw (behind x) (omega (arith, w port, l));
          only = λ x l.
              let port : 1 ≤ g.count = held (omega (arith, l)) in
              let l' = rw (behind x) at l in
              near_meet (ports_from count lines x) g k (omega arith) within some port fit.base (omega (arith, w port, l'));
        }
