-- Numbers or-ed together are zero exactly if each of them is, and so are bytes; and a record of a grant is used or zero. Assumes nothing.
use Rattle.facts.proofs.Words.{◌≡◌, ◌∙◌, ap, sym, ◌⊎◌, inr, ⊎_elim, ◌≢◌, List, Bool, false, ℕ, ◌+◌, ◌-◌, ◌≤◌, ℕ_discrete, dec_lt, arith, add-zero, eq-eqb}
use Rattle.facts.proofs.Words.{ne_eqb, bit_or, or_add_and, and_le_l, and_le_r, eqb, Says, by_cases}
use Rattle.facts.specs.{byte, long}
use Rattle.facts.proofs.{told, says_true, says_false, says_as, says_eq}
use Rattle.layout.specs.{Zero, LiveIn, ClientsSound}
use Rattle.layout.proofs.Parts.{below_at, below_all}
use Rattle.table_read.specs.{eight}

-- a number is zero where what its being zero says is so
pub zero_where : (n : ℕ) {P : Type 0} → Says (eqb n 0) P → P → n ≡ 0
zero_where n s p = told (ℕ_discrete n 0) (λ d. s.fails (ne_eqb n 0 d) p)

pub or_says : (x y : ℕ) {P Q : Type 0} → Says (eqb x 0) P → Says (eqb y 0) Q → Says (eqb (bit_or x y) 0) (P × Q)
or_says x y p q =
    says_as (says_eq (bit_or x y) 0)
    (λ e. (p.holds (eq-eqb x 0 (omega (arith, or_add_and x y, and_le_r x y))), q.holds (eq-eqb y 0 (omega (arith, or_add_and x y, and_le_l x y)))))
    (λ h. omega (arith, or_add_and x y, zero_where x p h.0, zero_where y q h.1))

-- the number is zero exactly if the bytes from one place up to another are
pub record Gathered (b : List ℕ) (from to all : ℕ) : Type 0 where
  pub says : Says (eqb all 0) (Zero b from to)

pub gathered_none : (b : List ℕ) (from to : ℕ) → to ≡ from → Gathered b from to 0
gathered_none b from to e = record { says = says_true (λ i f l. absurd (omega arith)) }

pub gathered_joined : (b : List ℕ) (from mid to x y : ℕ) → from ≤ mid → mid ≤ to → Gathered b from mid x → Gathered b mid to y
    → Gathered b from to (bit_or x y)
gathered_joined b from mid to x y f l g g' =
    record {
      says = says_as (or_says x y g.says g'.says) (λ z i h m. by_cases (dec_lt i mid) (z.0 i h) (λ n. z.1 i (omega arith) m))
          (λ z. (λ i h m. z i h (omega arith), λ i h m. z i (omega arith) m));
    }

pub gathered_more : (b : List ℕ) (from i next all x : ℕ) → from ≤ i → next ≡ i + 1 → x ≡ byte b i → Gathered b from i all
    → Gathered b from next (bit_or all x)
gathered_more b from i next all x h e v g = gathered_joined b from i next all x h (omega arith) g here
  where
    here : Gathered b i next x
    here = record { says = says_as (says_eq x 0) (λ z k f l. ap (byte b) (omega arith) ∙ sym v ∙ z) (λ z. v ∙ z i (omega arith) (omega arith)) }

-- so is the number of eight bytes
pub gathered_eight : (b : List ℕ) (at to : ℕ) → to ≡ at + 8 → Gathered b at to (eight b at)
gathered_eight b at to e =
    record {
      says = says_as (says_eq (eight b at) 0)
          (λ z q l m. let there : q ≡ at + (q - at) = omega arith in
          ap (byte b) there ∙ below_at 8 (λ j. byte b (at + j) ≡ 0) (omega (arith, z, ap (byte b) (add-zero at))) (q - at) (omega arith))
          (λ z. let all = below_all 8 (λ j. byte b (at + j) ≡ 0) (λ j l. z (at + j) (omega arith) (omega arith)) in
          omega (arith, ap (byte b) (add-zero at)));
    }

pub gathered_says : (b : List ℕ) (from i to all : ℕ) → i ≡ to → Gathered b from i all → Says (eqb all 0) (Zero b from to)
gathered_says b from i to all s g = rw s at g.says

-- a record that is zero, or is used and is P: where it isn't zero, P decides
module _ {Zeroed Used P : Type 0} (not-zero : Zeroed → ⊥) where
  pub place_false : (P → ⊥) → Says false (Zeroed ⊎ (Used × P))
  place_false n = says_false (⊎_elim not-zero (λ p. n p.1))

  pub place_says : {r : Bool} {Q : Type 0} → Says r Q → (Q → Used × P) → (P → Q) → Says r (Zeroed ⊎ (Used × P))
  place_says s f g = says_as s (λ q. inr (f q)) (⊎_elim (λ z. absurd (not-zero z)) (λ p. g p.1))

-- the handle of a live client is not 0
pub live_used : (b : List ℕ) {h : ℕ} → ClientsSound b → LiveIn b h → h ≢ 0
live_used b s l e = omega (arith, (s l.0 l.1).over, l.2, e)

-- four bytes are zero exactly if the number that they say is
module _ (b : List ℕ) (at to : ℕ) (n : to ≡ at + 4) where
  pub long_zero : long b at ≡ 0 → Zero b at to
  long_zero e i f l =
      let here : i ≡ at + (i - at) = omega arith in
      let last : at + 3 ≡ at + 2 + 1 = omega arith in
      ap (byte b) here
      ∙ below_at 4 (λ k. byte b (at + k) ≡ 0)
      ((((tt, rw (add-zero at) (omega (arith, e))), omega (arith, e)), omega (arith, e)), rw last (omega (arith, e))) (i - at) (omega arith)

  pub zero_long : Zero b at to → long b at ≡ 0
  zero_long z =
      omega (
        arith,
        z at (omega arith) (omega arith),
        z (at + 1) (omega arith) (omega arith),
        z (at + 2) (omega arith) (omega arith),
        z (at + 2 + 1) (omega arith) (omega arith),
      )
