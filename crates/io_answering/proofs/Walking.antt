-- Whether a card answers in a gap of the rows: how far it is ahead of each. Assumes nothing.
use Rattle.facts.proofs.Words.{◌≡◌, refl, ap, sym, ◌∙◌, ◌≢◌, Bool, cond, ℕ, ◌+◌, ◌-◌, ◌*◌, ◌/◌, ◌%◌, ◌^◌, ◌≤◌, ◌<◌, min}
use Rattle.facts.proofs.Words.{mod-lt, mod-add-mod, add-mul-mod_self_right, div-add-mod', one-mul, add-mul, dec_lt}
use Rattle.facts.proofs.Words.{arith, bit_and, and_mask, ne_eqb, pow_pos, pow_mono, Says, eqb, ℕ_discrete}
use Rattle.facts.specs.declared.Ports.{Ports}
use Rattle.facts.specs.{Meet, all_ports, most_lines}
use Rattle.facts.proofs.{says_as, says_eq, told}
use Rattle.io_ranges.proofs.{all_ports_mod, meet_near, near_meet}
use Rattle.io_answering.specs.declared.gaps.Gaps.{Gaps}
use Rattle.io_answering.specs.{most_gaps, gap_at, LowBits, reach_of_lem, ahead_of}

-- a ones takes the remainder by the period
pub masked : (n ones : ℕ) → LowBits ones → bit_and n ones ≡ n % (ones + 1)
masked n ones m =
    let e : ones ≡ 2 ^ m.lines - 1 = omega (arith, m.is) in
    ap (bit_and n) e ∙ and_mask n m.lines ∙ ap (λ (k : ℕ). n % k) (sym m.is)

-- the period is at most half of all ports
pub ones_short : (ones : ℕ) → LowBits ones → ones + 1 ≤ 2 ^ 15
ones_short ones m = let l : m.lines ≤ 15 = omega (arith, m.fewer) in omega (arith, m.is, pow_mono l)

-- the distance behind, by the low bits
pub masked_behind : (base last ones : ℕ) → LowBits ones
    → bit_and (last + (ones + 1) - bit_and base ones) ones ≡ (last + (ones + 1) - base % (ones + 1)) % (ones + 1)
masked_behind base last ones m =
    masked (last + (ones + 1) - bit_and base ones) ones m ∙ ap (λ (n : ℕ). (last + (ones + 1) - n) % (ones + 1)) (masked base ones m)

-- how far a gap with ports reaches
pub reach_filled : (ports more : ℕ) → ports ≢ 0 → reach_of_lem ports more ≡ ports + more
reach_filled ports more n = ap (λ (b : Bool). cond b 0 (ports + more)) (ne_eqb ports 0 n)

-- how far a port lies past a base, modulo the period, by their remainders
behind_is : (y base k : ℕ) → k ≤ most_lines → base ≤ all_ports
    → (y % 2 ^ k + 2 ^ k - base % 2 ^ k) % 2 ^ k ≡ (y + all_ports - base) % 2 ^ k
behind_is y base k h l = ap (λ (n : ℕ). n % m) e₁ ∙ mod-add-mod y m past ∙ sym (all_ports_mod k h (y + past)) ∙ ap (λ (n : ℕ). n % m) e₂
    ∙ add-mul-mod_self_right (y + all_ports - base) (base / m + 1) m
  where
    m : ℕ
    m = 2 ^ k

    rest : base % m < m
    rest = mod-lt base (pow_pos k)

    past : ℕ
    past = m - base % m

    e₁ : y % m + m - base % m ≡ y % m + past
    e₁ = omega (arith, rest)

    e₂ : y + past + all_ports ≡ y + all_ports - base + (base / m + 1) * m
    e₂ = omega (arith, rest, div-add-mod' base m, add-mul (base / m) 1 m, one-mul m)

-- one gap and a card's ports
module _ (g a : Ports) (low : g.base ≤ all_ports) (all : g.lines ≡ most_lines) (some : 1 ≤ a.count) (fewer : a.lines < most_lines) where
  abbrev behind : ℕ
  behind = (a.base + a.count - 1 + all_ports - g.base) % 2 ^ a.lines

  abbrev far : ℕ
  far = ahead_of g.base g.count ((a.base + a.count - 1) % 2 ^ a.lines) (a.count - 1) (2 ^ a.lines)

  least : a.lines ≡ min a.lines g.lines
  least = omega (arith, fewer, all)

  -- a gap without a port is no gap
  empty : g.count ≡ 0 → far ≡ 0
  empty e =
      ap (λ (n : ℕ). ahead_of g.base n ((a.base + a.count - 1) % 2 ^ a.lines) (a.count - 1) (2 ^ a.lines)) e
      ∙ zero_sub (((a.base + a.count - 1) % 2 ^ a.lines + 2 ^ a.lines - g.base % 2 ^ a.lines) % 2 ^ a.lines)
    where
      zero_sub : (n : ℕ) → ◌≡◌ {A = ℕ} (0 - n) 0
      zero_sub n = omega arith

  -- one with ports is left behind as far as the card's ports reach past it
  filled : 1 ≤ g.count → far ≡ g.count + (a.count - 1) - behind
  filled h =
      ap (λ (n : ℕ). n - ((a.base + a.count - 1) % 2 ^ a.lines + 2 ^ a.lines - g.base % 2 ^ a.lines) % 2 ^ a.lines)
      (reach_filled g.count (a.count - 1) (λ e. omega (arith, e)))
      ∙ ap (λ (n : ℕ). g.count + (a.count - 1) - n) (behind_is (a.base + a.count - 1) g.base a.lines (omega arith) low)

  pub far_none : far ≡ 0 → Meet a g → ⊥
  far_none e m =
      let port : 1 ≤ g.count = omega (arith, m.other_in.from, m.other_in.below) in
      omega (arith, e, filled port, meet_near a g a.lines least (omega arith) some port low m)

  pub far_some : far ≢ 0 → Meet a g
  far_some n = below_or_not (dec_lt 0 g.count)
    where
      below_or_not : Dec (0 < g.count) → Meet a g
      below_or_not (no d) = absurd (n (empty (omega arith)))
      below_or_not (yes h) = near_meet a g a.lines least (omega arith) some h low (omega (arith, n, filled h))

-- how far it is ahead of the gap in the place n is 0 exactly if it doesn't meet that gap
pub row_says : (gaps : Gaps) (a : Ports) (n d : ℕ) → 1 ≤ a.count → a.lines < most_lines → n < most_gaps
    → d ≡ ahead_of (gap_at gaps n).base (gap_at gaps n).count ((a.base + a.count - 1) % 2 ^ a.lines) (a.count - 1) (2 ^ a.lines)
    → Says (eqb d 0) (Meet a (gap_at gaps n) → ⊥)
row_says gaps a n d some fewer l e =
    let low = gaps.starts_fit n l in
    says_as (says_eq d 0) (λ z. far_none (gap_at gaps n) a low refl some fewer (sym e ∙ z))
    (λ z. told (ℕ_discrete d 0) (λ k. z (far_some (gap_at gaps n) a low refl some fewer (λ q. k (e ∙ q)))))
