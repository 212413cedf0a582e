-- A remainder by two to the smaller line count decides whether two ranges of ports meet; and where they do, they do again after a period. Assumes
-- nothing.
use Rattle.facts.proofs.Words.{◌≡◌, sym, ap, subst, ◌∙◌, ◌↔◌, ℕ, ◌+◌, ◌-◌, ◌*◌, ◌%◌, ◌^◌, ◌≤◌, ◌<◌, min, add-mul-mod_self_right, mul-mod_left, arith}
use Rattle.facts.proofs.Words.{ltb, pow-add, pow_pos, mod-mod-pow, Says}
use Rattle.facts.specs.declared.Ports.{Ports}
use Rattle.facts.specs.{all_ports, most_lines, Meet}
use Rattle.facts.proofs.{says_as, says_lt}
use Rattle.io_ranges.proofs.Meeting.{Common, moved, common_look}

module _ (k : ℕ) (h : k ≤ most_lines) where
  all_ports_lem : all_ports ≡ 2 ^ (most_lines - k) * 2 ^ k
  all_ports_lem = let e : most_lines ≡ most_lines - k + k = omega arith in ap (λ (n : ℕ). 2 ^ n) e ∙ pow-add 2 (most_lines - k) k

  pub all_ports_mod : (n : ℕ) → (n + all_ports) % 2 ^ k ≡ n % 2 ^ k
  all_ports_mod n = ap (λ (x : ℕ). (n + x) % 2 ^ k) all_ports_lem ∙ add-mul-mod_self_right n (2 ^ (most_lines - k)) (2 ^ k)

  whole : all_ports % 2 ^ k ≡ 0
  whole = ap (λ (x : ℕ). x % 2 ^ k) all_ports_lem ∙ mul-mod_left (2 ^ (most_lines - k)) (2 ^ k)

-- one remainder decides whether two ranges meet
module _ (a b : Ports) (k : ℕ) (e : k ≡ min a.lines b.lines) (h : k ≤ most_lines) where
  meet_common : Meet a b → Common a.base a.count b.base b.count (2 ^ k)
  meet_common m =
      record {
        one = m.one;
        other = m.other;
        one_in = m.one_in;
        other_in = m.other_in;
        equal = subst (λ (n : ℕ). m.one % 2 ^ n ≡ m.other % 2 ^ n) (sym e) m.equal;
      }

  common_meet : Common a.base a.count b.base b.count (2 ^ k) → Meet a b
  common_meet c =
      record {
        one = c.one;
        other = c.other;
        one_in = c.one_in;
        other_in = c.other_in;
        equal = subst (λ (n : ℕ). c.one % 2 ^ n ≡ c.other % 2 ^ n) e c.equal;
      }

  module _ (n : 1 ≤ a.count) (n' : 1 ≤ b.count) (l : b.base ≤ all_ports) where
    look : Common a.base a.count b.base b.count (2 ^ k)
        ↔ ((a.base + a.count - 1 + all_ports - b.base) % 2 ^ k < a.count + b.count - 1)
    look = common_look (2 ^ k) all_ports (pow_pos k) (whole k h) a.base a.count b.base b.count n n' (omega arith)

    pub meet_near : Meet a b → (a.base + a.count - 1 + all_ports - b.base) % 2 ^ k < a.count + b.count - 1
    meet_near m = look.0 (meet_common m)

    pub near_meet : (a.base + a.count - 1 + all_ports - b.base) % 2 ^ k < a.count + b.count - 1 → Meet a b
    near_meet r = common_meet (look.1 r)

    pub meet_says : Says (ltb ((a.base + a.count - 1 + all_ports - b.base) % 2 ^ k) (a.count + b.count - 1)) (Meet a b)
    meet_says = says_as (says_lt _ _) near_meet meet_near

-- what is equal modulo a power of two is so modulo a smaller one
pub mod_fewer : (x y k j : ℕ) → k ≤ j → x % 2 ^ j ≡ y % 2 ^ j → x % 2 ^ k ≡ y % 2 ^ k
mod_fewer x y k j l e = sym (fewer x) ∙ ap (λ (n : ℕ). n % 2 ^ k) e ∙ fewer y
  where
    fewer : (n : ℕ) → n % 2 ^ j % 2 ^ k ≡ n % 2 ^ k
    fewer n = let s : j ≡ j - k + k = omega arith in ap (λ (i : ℕ). n % 2 ^ i % 2 ^ k) s ∙ mod-mod-pow n (j - k) k

-- ports meet others wherever they would if they were moved by a period of at least as many lines as decide it
pub meet_repeats : (a b : Ports) (j y : ℕ) → min a.lines b.lines ≤ j → a.base % 2 ^ j ≡ y % 2 ^ j → Meet a b
    → Meet (record { base = y; count = a.count; lines = a.lines }) b
meet_repeats a b j y l e m =
    let i : ℕ = m.one - a.base in
    let here : a.base + i ≡ m.one = omega (arith, m.one_in.from) in
    record {
      one = y + i;
      other = m.other;
      one_in = record { from = omega arith; below = omega (arith, m.one_in.from, m.one_in.below) };
      other_in = m.other_in;
      equal =
          sym (moved (2 ^ min a.lines b.lines) a.base y i (mod_fewer a.base y (min a.lines b.lines) j l e))
          ∙ ap (λ (n : ℕ). n % 2 ^ min a.lines b.lines) here ∙ m.equal;
    }
