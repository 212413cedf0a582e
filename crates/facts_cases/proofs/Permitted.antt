-- What is permitted: laws of checks that pass, and of a choice alone. Assumes nothing.
use Rattle.facts.proofs.Words.{◌≡◌, refl, ◌⊎◌, inr, ⊎_elim, iff_rfl, List, [], ◌∷◌, ◌++◌, ℕ, le_refl}
use Rattle.facts.specs.{Code, Facts, ◌∈◌, Check, Outcome, FirstGiven, Passed, Kept, Leaves, Chosen, Coincide}
use Rattle.facts_cases.specs.{Exactly, refused}

infixr 3 ◌nor◌
infixr 2 ◌then◌
infixr 2 ◌past◌
-- a permitted outcome, where any two coincide
pub exactly : {O : Type 0} {R : O → Type 0} {o : O} → Coincide R → R o → Exactly R o
exactly {o = o} u r = record { permitted = r; only = λ o' r'. u o' o r' r }

-- what is done, and what is kept, is as said
pub as_left : (o : Outcome) → Leaves o.handle o.packet o.facts o
as_left o = record { handle = refl; packet = refl; facts = refl }

pub as_kept : (k : Code) (p : List ℕ) (F : Facts) → Kept F p (refused k p F)
as_kept k p F = record { handle = refl; packet = refl; facts = refl }

-- checks pass one after the other; one with two reasons, if neither holds
pub ◌then◌ : {A B : Type 0} → A → B → A × B
a then b = (a, b)

pub ◌nor◌ : {A B : Type 0} → (A → ⊥) → (B → ⊥) → A ⊎ B → ⊥
f nor g = ⊎_elim f g

-- a check that doesn't apply, and then the first that does
pub ◌past◌ : {A B C : Type 0} → (A → ⊥) → B → C ⊎ ((A → ⊥) × B)
f past g = inr (f, g)

-- checks after others that pass
pub passed-after : (cs own : List Check) → Passed cs → Passed own → Passed (cs ++ own)
passed-after [] own p q = q
passed-after (c ∷ cs) own p q = (p.0, passed-after cs own p.1 q)

pub given-after : (cs own : List Check) (k : Code) → Passed cs → FirstGiven own k → FirstGiven (cs ++ own) k
given-after [] own k p g = g
given-after (c ∷ cs) own k p g = p.0 past given-after cs own k p.1 g

-- what is in a list of one is that one
pub listed_alone : {A : Type 0} {x y : A} → x ∈ (y ∷ []) → x ≡ y
listed_alone = ⊎_elim (λ e. e) absurd

-- one that fits alone is chosen
pub alone_chosen : {Fit Early : ℕ → Type 0} {x : ℕ} → Fit x → ((y : ℕ) → Fit y → y ≡ x) → Chosen Fit Early x
alone_chosen {x = x} fits only = record { fits = fits; first = λ y f. rw (only y f) (inr (iff_rfl, le_refl x)) }
