-- What a grant reaches of another, by the numbers in the rows, is 0 exactly if the two keep company. Assumes nothing.
use Rattle.facts.proofs.Words.{◌≡◌, refl, sym, ap, ap₂, ◌∙◌, subst, Bool, true, false, false≢true, cond, List, ℕ, ◌+◌, ◌-◌, ◌%◌, ◌^◌}
use Rattle.facts.proofs.Words.{min-eq_left, min-eq_right, mod-eq_of_lt, mod-lt, mod-mod-pow, pow_pos, pow_mono, dec_le, ℕ_discrete, arith, bit_and, and_mask}
use Rattle.facts.proofs.Words.{◌≤◌, ◌<◌, min, by_cases, eqb, eq-eqb, ne_eqb, Says}
use Rattle.facts.specs.declared.Ports.{Ports}
use Rattle.facts.specs.{all_ports, most_lines, word, Meet, IoGrant}
use Rattle.facts.proofs.{told, says_as, says_eq}
use Rattle.layout.specs.{io_in, io_place_lem, io_size, IoUsed, IoPlaceSound, IoPairSound}
use Rattle.layout.proofs.{used_sound, ports_are}
use Rattle.io_ranges.proofs.{mod_fewer, meet_near, near_meet}
use Rattle.table_read.proofs.{zero_where}
use Rattle.seats.specs.{CompanySound, PlacesSound}
use Rattle.table_company.specs.declared.Numbers.{Numbers}
use Rattle.table_company.specs.declared.Rows.{Rows}
use Rattle.table_company.specs.{NumbersAre, RowsAre, numbers_at, over_of, reached, RowsApart}

-- the low bits of both are the remainder by the fewer lines
module _ (n i j ones ones' : ℕ) (e : ones + 1 ≡ 2 ^ i) (e' : ones' + 1 ≡ 2 ^ j) where
  fewer_lines : n % 2 ^ i % 2 ^ j ≡ n % 2 ^ min i j
  fewer_lines =
      by_cases (dec_le j i)
      (λ l. let s : i ≡ i - j + j = omega arith in
      ap (λ (k : ℕ). n % 2 ^ k % 2 ^ j) s ∙ mod-mod-pow n (i - j) j ∙ ap (λ (k : ℕ). n % 2 ^ k) (sym (min-eq_right l)))
      (λ l. let m : i ≤ j = omega arith in
      mod-eq_of_lt (omega (arith, mod-lt n (pow_pos i), pow_mono m)) ∙ ap (λ (k : ℕ). n % 2 ^ k) (sym (min-eq_left m)))

  low_bits : bit_and (bit_and n ones) ones' ≡ n % 2 ^ min i j
  low_bits =
      let o : ones ≡ 2 ^ i - 1 = omega (arith, e) in
      let o' : ones' ≡ 2 ^ j - 1 = omega (arith, e') in
      ap₂ bit_and (ap (bit_and n) o ∙ and_mask n i) o' ∙ and_mask (n % 2 ^ i) j ∙ fewer_lines

-- how far the last port lies past the base, modulo all ports, is the same modulo fewer lines
past_fewer : (n base k : ℕ) → k ≤ most_lines → base < all_ports
    → (n % all_ports + all_ports - base) % all_ports % 2 ^ k ≡ (n + all_ports - base) % 2 ^ k
past_fewer n base k h l = mod_fewer ((n % all_ports + all_ports - base) % all_ports) (n + all_ports - base) k most_lines h (omega arith)

-- two grants that are there: what the one reaches of all ports of the other is 0 exactly if they don't meet
module _ (a c : Ports) (one : 1 ≤ a.count) (one' : 1 ≤ c.count) (l : a.lines ≤ most_lines) (low : c.base < all_ports) (ones ones' : ℕ)
    (e : ones + 1 ≡ 2 ^ a.lines) (e' : ones' + 1 ≡ 2 ^ c.lines) where
  abbrev fewest : ℕ
  fewest = min a.lines c.lines

  abbrev last_port : ℕ
  last_port = a.base + (a.count - 1)

  behind : bit_and (bit_and ((last_port % all_ports + all_ports - c.base) % all_ports) ones) ones' ≡ (a.base + a.count - 1 + all_ports - c.base) % 2 ^ fewest
  behind =
      let s : last_port + all_ports - c.base ≡ a.base + a.count - 1 + all_ports - c.base = omega arith in
      low_bits ((last_port % all_ports + all_ports - c.base) % all_ports) a.lines c.lines ones ones' e e'
      ∙ past_fewer last_port c.base fewest (omega arith) low ∙ ap (λ (n : ℕ). n % 2 ^ fewest) s

  abbrev reach : ℕ
  reach = over_of c.base ones' c.count (last_port % all_ports) ones (a.count - 1)

  reach_says : Says (eqb reach 0) (Meet a c → ⊥)
  reach_says =
      says_as (says_eq reach 0) (λ z m. omega (arith, z, behind, meet_near a c fewest refl (omega arith) one one' (omega arith) m))
      (λ n. told (ℕ_discrete reach 0) (λ d. n (near_meet a c fewest refl (omega arith) one one' (omega arith) (omega (arith, d, behind)))))

-- a grant that is there has ports, and lines that are told apart
has_ports : (b : List ℕ) (s : ℕ) → IoPlaceSound b s → IoUsed b s → (1 ≤ (io_in b s).ports.count) × ((io_in b s).ports.lines ≤ most_lines)
has_ports b s place used =
    let sound = used_sound b (io_place_lem s) io_size (omega arith) place used in
    let are = sym (ports_are b s) in
    (subst (λ (p : Ports). 1 ≤ p.count) are sound.port, subst (λ (p : Ports). p.lines ≤ most_lines) are sound.lines)

-- the count that a shared grant may not reach, and one that isn't shared
against : (x y : Numbers) (count : ℕ) (shared : Bool) → 1 ≤ count → x.unshared ≡ cond shared 0 count
    → cond (eqb x.unshared 0) y.unshared y.count ≡ cond shared y.unshared y.count
against x y count true l e = ap (λ (t : Bool). cond t y.unshared y.count) (eq-eqb x.unshared 0 e)
against x y count false l e = ap (λ (t : Bool). cond t y.unshared y.count) (ne_eqb x.unshared 0 (λ z. omega (arith, z, e)))

both_none : (t : Bool) (m n : ℕ) → m ≡ 0 → n ≡ 0 → cond t m n ≡ 0
both_none true m n e f = e
both_none false m n e f = f

-- the grant at the seat s, and the record of the seat u, by their numbers
module _ (b : List ℕ) (s u : ℕ) (here there : Numbers) (one : NumbersAre b s here) (other : NumbersAre b u there) (place : IoPlaceSound b s)
    (place' : IoPlaceSound b u) (used : IoUsed b s) where
  abbrev x : IoGrant
  x = io_in b s

  abbrev y : IoGrant
  y = io_in b u

  -- what is reached of n ports
  abbrev over : ℕ → ℕ
  over n = over_of there.base there.ones n ((here.base + (here.count - 1)) % all_ports) here.ones (here.count - 1)

  abbrev Decides : ℕ → Type 0
  Decides n = Says (eqb (over n) 0) (IoPairSound b s u)

  nothing : (n : ℕ) → n ≡ 0 → IoPairSound b s u → Decides n
  nothing n e p = let none : over 0 ≡ 0 = omega arith in says_as (says_eq (over n) 0) (λ z. p) (λ q. ap over e ∙ none)

  all_ports_lem : (n : ℕ) → n ≡ y.ports.count → IoUsed b u → ((x.shared ≡ true) × (y.shared ≡ true) → ⊥) → Decides n
  all_ports_lem n e used' apart =
      let has = has_ports b s place used in
      let has' = has_ports b u place' used' in
      let says = reach_says x.ports y.ports has.0 has'.0 has.1 (subst (λ (k : ℕ). k < all_ports) (other.base used') other.low) _ _
      (one.ones used) (other.ones used') in
      rw (e, one.base used, one.count used, other.base used') (says_as says (λ d v v' m. absurd (d m)) (λ p m. apart (p used used' m)))

  by_marks : (p q : Bool) → x.shared ≡ p → y.shared ≡ q → IoUsed b u → Decides (cond p there.unshared there.count)
  by_marks false q e f used' = all_ports_lem _ (other.count used') used' (λ m. false≢true (sym e ∙ m.0))
  by_marks true true e f used' =
      nothing _ (other.unshared used' ∙ ap (λ (t : Bool). cond t 0 y.ports.count) f) (λ v v' m. (e, f))
  by_marks true false e f used' =
      all_ports_lem _ (other.unshared used' ∙ ap (λ (t : Bool). cond t 0 y.ports.count) f) used' (λ m. false≢true (sym f ∙ m.1))

  pub reached_says : Says (eqb (reached here there) 0) (IoPairSound b s u)
  reached_says =
      let free = other.free in
      subst Decides (sym (against here there x.ports.count x.shared (has_ports b s place used).0 (one.unshared used)))
      (by_cases (ℕ_discrete (word b (io_place_lem u)) 0)
      (λ z. let none = free (λ v. v z) in nothing _ (both_none x.shared _ _ none.1 none.0) (λ v v'. absurd (v' z)))
      (by_marks x.shared y.shared refl refl))

-- so the grant at a seat reaches nothing of those below it exactly if it keeps company with them
module _ (b : List ℕ) (rows : Rows) (s : ℕ) (are : RowsAre b rows (s + 1)) (places : PlacesSound (IoPlaceSound b) (s + 1)) where
  abbrev pair : (u : ℕ) → u < s → IoUsed b s → Says (eqb (reached (numbers_at rows s) (numbers_at rows u)) 0) (IoPairSound b s u)
  pair u l = reached_says b s u (numbers_at rows s) (numbers_at rows u) (are s (omega arith)) (are u (omega arith)) (places s (omega arith)) (places u (omega arith))

  apart_company : RowsApart rows s → CompanySound (IoPairSound b) s
  apart_company a u l used =
      let has = has_ports b s (places s (omega arith)) used in
      let count = (are s (omega arith)).count used in
      (pair u l used).holds (eq-eqb (reached (numbers_at rows s) (numbers_at rows u)) 0 (a (omega (arith, has.0, count)) u l)) used

  company_apart : CompanySound (IoPairSound b) s → RowsApart rows s
  company_apart c one u l =
      by_cases (ℕ_discrete (word b (io_place_lem s)) 0) (λ z. absurd (omega (arith, ((are s (omega arith)).free (λ v. v z)).0, one)))
      (λ used. zero_where (reached (numbers_at rows s) (numbers_at rows u)) (pair u l used) (c u l))

  pub apart_says : {r : Bool} → Says r (RowsApart rows s) → Says r (CompanySound (IoPairSound b) s)
  apart_says says = says_as says apart_company company_apart
