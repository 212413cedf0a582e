-- The table of the sharing rule is the rule at every pair of manners; four marks of it are a set of manners. Assumes nothing.
use Rattle.facts.proofs.Words.{◌≡◌, refl, ap, sym, ◌∙◌, ◌↔◌, List, [], ◌∷◌, Bool, true, false, not, ℕ, ◌^◌, ◌<◌, arith, T, eqb, eqb→eq, length, get_or}
use Rattle.facts.proofs.Words.{Says}
use Rattle.facts.specs.{bit, Together, Manner, Exclusive, TimeMultiplexed, DynamicLevel, DynamicPulse}
use Rattle.facts.proofs.{says_false, says_as, says_eq, says_not}
use Rattle.layout.specs.{manner_byte_lem, manner_of_lem}
use Rattle.layout.proofs.{manner_back, manner_most}
use Rattle.irq_levels.specs.{MarksApart, MannersApart}
use Rattle.irq_levels.proofs.Table.{both, both_left, both_right, every, at}

-- how many manners there are
abbrev manners : ℕ
manners = 4

abbrev table : List (List Bool)
table =
    (false ∷ false ∷ false ∷ false ∷ [])
    ∷ (false ∷ true ∷ false ∷ false ∷ [])
    ∷ (false ∷ false ∷ true ∷ false ∷ [])
    ∷ (false ∷ false ∷ false ∷ true ∷ [])
    ∷ []

abbrev entry : ℕ → ℕ → Bool
entry i j = get_or (get_or table i []) j false

-- "only equal ones, and never exclusive": of the numbers of two manners
abbrev rule : ℕ → ℕ → Bool
rule i j = both (eqb i j) (not (eqb i 0))

abbrev same : Bool → Bool → Bool
same true b = b
same false b = not b

same_eq : (a b : Bool) → T (same a b) → a ≡ b
same_eq true true t = refl
same_eq true false t = absurd t
same_eq false true t = absurd t
same_eq false false t = refl

abbrev right : ℕ → ℕ → Bool → Bool
right i j x = same x (rule i j)

abbrev row_right : ℕ → List Bool → Bool
row_right i row = both (eqb (length row) manners) (every (right i) 0 row)

-- the test of all sixteen entries
all_right : T (every row_right 0 table)
all_right = tt

entry_rule : (i j : ℕ) → i < manners → j < manners → entry i j ≡ rule i j
entry_rule i j h l =
    let row : List Bool = get_or table i [] in
    let t : T (row_right i row) = at row_right [] table all_right i h in
    let e = eqb→eq (length row) manners (both_left (eqb (length row) manners) (every (right i) 0 row) t) in
    same_eq (entry i j) (rule i j) (at (right i) false row (both_right (eqb (length row) manners) (every (right i) 0 row) t) j (omega (arith, e)))

pub byte_lt : (m : Manner) → manner_byte_lem m < manners
byte_lt m = omega (arith, manner_most m)

byte_injective : (a b : Manner) → manner_byte_lem a ≡ manner_byte_lem b → a ≡ b
byte_injective a b e = sym (manner_back a) ∙ ap manner_of_lem e ∙ manner_back b

says_both : (p q : Bool) {P Q : Type 0} → Says p P → Says q Q → Says (both p q) (P × Q)
says_both true q s s' = says_as s' (λ y. (s.holds refl, y)) (λ x. x.1)
says_both false q s s' = says_false (λ x. s.fails refl x.0)

pub rule_says : (a b : Manner) → Says (entry (manner_byte_lem a) (manner_byte_lem b)) (Together a b)
rule_says a b =
    rw (entry_rule (manner_byte_lem a) (manner_byte_lem b) (byte_lt a) (byte_lt b))
    (says_as (says_both _ _ (says_eq (manner_byte_lem a) (manner_byte_lem b)) (says_not (says_eq (manner_byte_lem a) 0)))
    (λ x. record { equal = byte_injective a b x.0; shares = λ e. x.1 (ap manner_byte_lem e) })
    (λ t. (ap manner_byte_lem t.equal, λ e. t.shares (byte_injective a Exclusive e))))

-- a set that has a mark for each manner
pub marks_apart : {m : Manner} {set e t l p : ℕ} → MarksApart m Exclusive e → MarksApart m TimeMultiplexed t → MarksApart m DynamicLevel l
    → MarksApart m DynamicPulse p → (bit set 0 ≡ e) × (bit set 1 ≡ t) × (bit set 2 ≡ l) × (bit set 3 ≡ p) → set < 2 ^ manners → MannersApart m set
marks_apart {m} {set} exclusive time level pulse bits small = record { manners = small; apart = at_byte }
  where
    at_byte : (k : Manner) → (bit set (manner_byte_lem k) ≡ 1) ↔ (Together m k → ⊥)
    at_byte Exclusive = rw bits.0 exclusive.apart
    at_byte TimeMultiplexed = rw bits.1 time.apart
    at_byte DynamicLevel = rw bits.2 level.apart
    at_byte DynamicPulse = rw bits.3 pulse.apart
