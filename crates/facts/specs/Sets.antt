-- Words for sets of facts: what is in a list, one left out, and a fact put in its place. Assumes nothing.
use Rattle.std.specs.Prelude.{◌≡◌, ◌⊎◌, List, [], ◌∷◌, cond, ℕ, eqb}

module _ {A : Type 0} where
  infix 4 ◌∈◌
  -- x is one of those listed
  abbrev pub ◌∈◌ : A → List A → Type 0
  x ∈ [] = ⊥
  x ∈ (y ∷ ys) = (x ≡ y) ⊎ (x ∈ ys)

  -- the list, but the first whose number is n
  abbrev pub without : (A → ℕ) → ℕ → List A → List A
  without number n [] = []
  without number n (y ∷ ys) = cond (eqb (number y) n) ys (y ∷ without number n ys)

  -- what f says, but x at the place k
  abbrev pub put : (ℕ → A) → ℕ → A → ℕ → A
  put f k x j = cond (eqb j k) x (f j)
