-- The multiples of a step. Assumes nothing.
use Rattle.facts.proofs.Words.{◌≡◌, ap, ◌∙◌, ℕ, ◌+◌, ◌-◌, ◌*◌, ◌/◌, ◌%◌, ◌≤◌, ◌<◌, one-mul, add-mul, mul-le-mul_right, lt_of_mul-lt-mul_right}
use Rattle.facts.proofs.Words.{div-mul-le_self, lt-div-mul-add, mul-mod_left, div-add-mod', dec_lt, arith, bit_and, pow_pos, pow_mono}
use Rattle.facts.specs.{all_ports}
use Rattle.io_obstacles.specs.{Power, Multiple, FirstMultiple}
use Rattle.io_obstacles.proofs.Leaping.{masked}

-- a power of two is positive
pub power_positive : (n : ℕ) → Power n → 1 ≤ n
power_positive n p = omega (arith, p.is, pow_pos p.lines)

-- and at most as many as there are ports
pub power_most : (n : ℕ) → Power n → n ≤ all_ports
power_most n p = omega (arith, p.is, pow_mono p.most)

-- a multiple leaves no remainder, and what leaves none is one
pub multiple_mod : (step x : ℕ) → Multiple step x → x % step ≡ 0
multiple_mod step x m = ap (λ (n : ℕ). n % step) m.is ∙ mul-mod_left m.times step

pub mod_multiple : (step x : ℕ) → x % step ≡ 0 → Multiple step x
mod_multiple step x e = record { times = x / step; is = omega (arith, div-add-mod' x step, e) }

-- of two multiples, the greater is at least a step further
multiples_apart : (step x y : ℕ) → Multiple step x → Multiple step y → x < y → x + step ≤ y
multiples_apart step x y m n l =
    let more : m.times < n.times = lt_of_mul-lt-mul_right step (omega (arith, m.is, n.is)) in
    let one : m.times + 1 ≤ n.times = omega arith in
    omega (arith, m.is, n.is, mul-le-mul_right step one, add-mul m.times 1 step, one-mul step)

-- a quotient rounded up gives the first multiple at or past a number
rounded_up : (from step : ℕ) → 1 ≤ step → FirstMultiple from step ((from + step - 1) / step * step)
rounded_up from step h = record { multiple = multiple; past = omega (arith, over); near = omega (arith, under); first = λ y m l. below_or_not y m l (dec_lt y r) }
  where
    r : ℕ
    r = (from + step - 1) / step * step

    multiple : Multiple step r
    multiple = record { times = (from + step - 1) / step; is = omega arith }

    under : r ≤ from + step - 1
    under = div-mul-le_self (from + step - 1) step

    over : from + step - 1 < r + step
    over = lt-div-mul-add h

    below_or_not : (y : ℕ) → Multiple step y → from ≤ y → Dec (y < r) → r ≤ y
    below_or_not y m l (yes k) = omega (arith, under, multiples_apart step y r m multiple k)
    below_or_not y m l (no k) = omega arith

-- and so does a number of which the remainder is taken away, by a ones where the step is a power of two
pub rounded : (from step : ℕ) → Power step → let top = from + step - 1 in FirstMultiple from step (top - bit_and top (step - 1))
rounded from step p =
    let h = power_positive step p in
    let top : ℕ = from + step - 1 in
    let whole : step - 1 + 1 ≡ step = omega arith in
    let rest : bit_and top (step - 1) ≡ top % step = masked top (step - 1) (rw whole p) ∙ ap (λ (n : ℕ). top % n) whole in
    let same : top - bit_and top (step - 1) ≡ top / step * step = omega (arith, rest, div-add-mod' top step) in
    rw same (rounded_up from step h)
