-- A seat's grant and its record: what holds of I/O and of IRQ grants alike. Assumes nothing.
use Rattle.facts.proofs.Words.{◌≡◌, refl, ap, sym, ◌∙◌, subst₂, ◌⊎◌, inl, inr, ⊎_elim, by_cases, ◌≢◌, List, Bool, cond, Option, none, some}
use Rattle.facts.proofs.Words.{some-injective, none-ne-some, ℕ, zero, suc, ◌+◌, ◌*◌, ◌-◌, ◌≤◌, ◌<◌, dec_lt, ℕ_discrete, arith, get_or}
use Rattle.facts.proofs.Words.{replicate, eqb, eq-eqb, ne_eqb}
use Rattle.facts.specs.{byte, word}
use Rattle.layout.specs.{Zero, below, seat_room}
use Rattle.layout.proofs.Parts.{zeros}
use Rattle.layout.proofs.Lists.{below_in, below_back, absent, found}
use Rattle.layout.proofs.Image.{part, Stands, first_word}

-- a test of the number 0
pub zero_test {ℓ} : {A : Type ℓ} (n : ℕ) (x y : A) → n ≡ 0 → cond (eqb n 0) x y ≡ x
zero_test n x y e = ap (λ (t : Bool). cond t x y) (eq-eqb n 0 e)

pub positive_test {ℓ} : {A : Type ℓ} (n : ℕ) (x y : A) → 0 < n → cond (eqb n 0) x y ≡ y
positive_test n x y l = ap (λ (t : Bool). cond t x y) (ne_eqb n 0 (λ e. omega arith))

-- what is read at a number that is not 0
pub nonzero : {A : Type 0} (n : ℕ) (x y : A) → cond (eqb n 0) none (some x) ≡ some y → (0 < n) × (x ≡ y)
nonzero zero x y e = absurd (none-ne-some y e)
nonzero (suc n) x y e = (omega arith, some-injective x y (sym (positive_test (suc n) none (some x) (omega arith)) ∙ e))

module _ (b : List ℕ) (place k : ℕ) (big : 2 ≤ k) where
  -- zero bytes, or a client and what S says
  abbrev pub Placed : Type 0 → Type 0
  Placed S = Zero b place (place + k) ⊎ ((word b place ≢ 0) × S)

  -- zero bytes say no client
  no_client_lem : Zero b place (place + k) → word b place ≡ 0
  no_client_lem z = omega (arith, z place (omega arith) (omega arith), z (place + 1) (omega arith) (omega arith))

  -- the record of a grant that is there is what S says
  pub used_sound : {S : Type 0} → Placed S → word b place ≢ 0 → S
  used_sound = ⊎_elim (λ z u. absurd (u (no_client_lem z))) (λ g u. g.1)

-- the grants of a kind: their bytes, of which no grant has zero ones, where the first of their k bytes stand, and what is read at each seat
module _ {G : Type 0} (bytes : Option G → List ℕ) (first k : ℕ) (big : 2 ≤ k) (empty : bytes none ≡ replicate k 0) (b : List ℕ) (read : ℕ → G) where
  -- a record whose client is 0 is no grant
  abbrev pub here : ℕ → Option G
  here s = cond (eqb (word b (first + s * k)) 0) none (some (read s))

  pub used_said : (s : ℕ) → s < seat_room → word b (first + s * k) ≢ 0 → below seat_room none here s ≡ some (read s)
  used_said s l u = below_in seat_room none here s l ∙ positive_test (word b (first + s * k)) none (some (read s)) (omega (arith, u))

  pub unused_said : (s : ℕ) → s < seat_room → word b (first + s * k) ≡ 0 → below seat_room none here s ≡ none
  unused_said s l z = below_in seat_room none here s l ∙ zero_test (word b (first + s * k)) none (some (read s)) z

  none_bytes : (o : Option G) → o ≡ none → (j : ℕ) → get_or (bytes o) j 0 ≡ 0
  none_bytes o e j = ap (λ (x : Option G). get_or (bytes x) j 0) e ∙ ap (λ (x : List ℕ). get_or x j 0) empty ∙ zeros k j

  module _ (S : ℕ → Type 0) where
    -- a grant that is read has a record that is used, and S says what it is
    pub grant_there : ((s : ℕ) → s < seat_room → Placed b (first + s * k) k big (S s)) → (s : ℕ) (g : G) → below seat_room none here s ≡ some g
        → (s < seat_room) × (word b (first + s * k) ≢ 0) × S s × (read s ≡ g)
    grant_there placed s g e =
        let f = found seat_room here s g e in
        let n = nonzero (word b (first + s * k)) (read s) g f.1 in
        let u : word b (first + s * k) ≢ 0 = (λ z. omega (arith, z, n.0)) in
        (f.0, u, used_sound b (first + s * k) k big (placed s f.0) u, n.1)

    -- two that are read keep company, if the records of two seats that are used do
    pub grants_company : (C : G → G → Type 0) → ((g g' : G) → C g g' → C g' g) → ((s : ℕ) → s < seat_room → Placed b (first + s * k) k big (S s))
        → ((s t : ℕ) → s < seat_room → t < s → word b (first + s * k) ≢ 0 → word b (first + t * k) ≢ 0 → C (read s) (read t))
        → (s t : ℕ) (g g' : G) → s ≢ t → below seat_room none here s ≡ some g → below seat_room none here t ≡ some g' → C g g'
    grants_company C turned placed pairs s t g g' d e e' =
        let i = grant_there placed s g e in
        let j = grant_there placed t g' e' in
        subst₂ C i.3 j.3
        (by_cases (dec_lt t s) (λ h. pairs s t i.0 h i.1 j.1)
        (λ h. turned (read t) (read s) (pairs t s j.0 (omega (arith, d)) j.1 i.1)))

    -- the bytes of what is read are the records
    pub grants_stand : ((s : ℕ) → s < seat_room → Placed b (first + s * k) k big (S s))
        → ((s : ℕ) → S s → (j : ℕ) → j < k → byte b (first + s * k + j) ≡ get_or (bytes (some (read s))) j 0)
        → Stands b first (part seat_room k (λ s. bytes (below seat_room none here s)))
    grants_stand placed is s l j m =
        ⊎_elim
        (λ z. z (first + s * k + j) (omega arith) (omega arith)
        ∙ sym (none_bytes (below seat_room none here s) (unused_said s l (no_client_lem b (first + s * k) k big z)) j))
        (λ u. is s u.1 j m ∙ ap (λ (o : Option G). get_or (bytes o) j 0) (sym (used_said s l u.0))) (placed s l)

    -- and where they are, each record is zero or what S says
    pub grants_placed : Stands b first (part seat_room k (λ s. bytes (below seat_room none here s)))
        → ((s : ℕ) → s < seat_room → word b (first + s * k) ≢ 0 → S s)
        → (s : ℕ) → s < seat_room → Placed b (first + s * k) k big (S s)
    grants_placed stands sound s l =
        by_cases (ℕ_discrete (word b (first + s * k)) 0)
        (λ z. inl (λ i h m. let there : i ≡ first + s * k + (i - (first + s * k)) = omega arith in
        ap (byte b) there ∙ stands s l (i - (first + s * k)) (omega arith)
        ∙ none_bytes (below seat_room none here s) (unused_said s l z) (i - (first + s * k)))) (λ u. inr (u, sound s l u))

  -- grants whose records these are, and that are read off them, are what is read
  pub grants_back : (client : G → ℕ) → ((s : ℕ) → client (read s) ≡ word b (first + s * k)) → (grants : ℕ → Option G)
      → Stands b first (part seat_room k (λ s. bytes (grants s)))
      → ((s : ℕ) (g : G) → grants s ≡ some g → (s < seat_room) × (0 < client g))
      → ((s : ℕ) (g : G) → ((j : ℕ) → j < k → byte b (first + s * k + j) ≡ get_or (bytes (some g)) j 0) → read s ≡ g)
      → below seat_room none here ≡ grants
  grants_back client said grants stands fits whole =
      below_back seat_room none here grants (λ s l. there_or_not s l (grants s) refl)
      (λ s l. absent (grants s) (λ g e. omega (arith, (fits s g e).0)))
    where
      there_or_not : (s : ℕ) → s < seat_room → (o : Option G) → grants s ≡ o → here s ≡ grants s
      there_or_not s l none e =
          let n = first_word b (first + s * k) k (bytes (grants s)) (stands s l) big in
          let unsaid : word b (first + s * k) ≡ 0 = omega (arith, n, none_bytes (grants s) e 0, none_bytes (grants s) e 1) in
          zero_test (word b (first + s * k)) none (some (read s)) unsaid ∙ sym e
      there_or_not s l (some g) e =
          let is = whole s g (λ j m. stands s l j m ∙ ap (λ (o : Option G). get_or (bytes o) j 0) e) in
          positive_test (word b (first + s * k)) none (some (read s)) (omega (arith, ap client is, said s, (fits s g e).1))
          ∙ ap {B = Option G} some is
          ∙ sym e
