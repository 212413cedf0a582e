-- Sets with a bit for each number: of all below a bound, and whether two have a number in common. Assumes nothing.
use Rattle.facts.proofs.Words.{◌≡◌, refl, ap, ◌∙◌, ◌≢◌, ℕ, suc, ◌+◌, ◌-◌, ◌/◌, ◌%◌, ◌^◌, ◌<◌, pow-suc, ℕ_discrete, arith, bin_ind, bit_and}
use Rattle.facts.proofs.Words.{eqb, pow_pos, ones_split, ones_lt, high, Says}
use Rattle.facts.specs.{bit}
use Rattle.facts.proofs.{says_as, says_eq}
use Rattle.table_read.specs.{Covers, HasJust}
use Rattle.table_read.proofs.Bits.{lowest_bit, higher_bit, no_bit}
use Rattle.table_read.proofs.Sets.{bit_and_lem, exactly_both}

-- the set of all below n
pub all_bits : (n k : ℕ) → k < n → bit (2 ^ n - 1) k ≡ 1
all_bits n k l =
    let more = n - k - 1 in
    let here : n ≡ suc more + k = omega arith in
    ap (λ (m : ℕ). bit (2 ^ m - 1) k) here ∙ ap (λ (m : ℕ). bit m k) (ones_split (suc more) k)
    ∙ ap (λ (m : ℕ). m % 2) (high (2 ^ suc more - 1) k (ones_lt k)) ∙ omega (arith, pow-suc 2 more, pow_pos more)

-- a number that is not 0 has a bit
some_bit : (n : ℕ) → n ≢ 0 → (k : ℕ) × (bit n k ≡ 1)
some_bit =
    bin_ind (λ (n : ℕ). n ≢ 0 → (k : ℕ) × (bit n k ≡ 1)) (λ d. absurd (d refl)) (λ n ih d. same_or_not n ih d (ℕ_discrete (n % 2) 1))
  where
    same_or_not : (n : ℕ) → (n / 2 ≢ 0 → (k : ℕ) × (bit (n / 2) k ≡ 1)) → n ≢ 0 → Dec (n % 2 ≡ 1) → (k : ℕ) × (bit n k ≡ 1)
    same_or_not n ih d (yes e) = (0, lowest_bit n ∙ e)
    same_or_not n ih d (no e) = let higher = ih (λ z. d (omega (arith, z, e))) in (suc higher.0, higher_bit n higher.0 ∙ higher.1)

-- sets that have no number in common say none in common
pub none_common : (x y : ℕ) {P Q : ℕ → Type 0} → bit_and x y ≡ 0 → Covers x P → Covers y Q → (k : ℕ) → P k → Q k → ⊥
none_common x y e p q k a b =
    let z : bit (bit_and x y) k ≡ 0 = ap (λ (n : ℕ). bit n k) e ∙ no_bit k in
    omega (arith, bit_and_lem x y k, p k a, q k b)

-- whether two sets have a number in common
pub common_says : (x y : ℕ) {P Q : ℕ → Type 0} → HasJust x P → HasJust y Q → Says (eqb (bit_and x y) 0) ((k : ℕ) → P k → Q k → ⊥)
common_says x y {P} {Q} p q = says_as (says_eq (bit_and x y) 0) (λ e. none_common x y e p.has q.has) (λ n. either_way n (ℕ_discrete (bit_and x y) 0))
  where
    either_way : ((k : ℕ) → P k → Q k → ⊥) → Dec (bit_and x y ≡ 0) → bit_and x y ≡ 0
    either_way n (yes e) = e
    either_way n (no d) =
        let k = some_bit (bit_and x y) d in
        let both = (exactly_both x y p q).only k.0 k.1 in
        absurd (n k.0 both.0 both.1)
