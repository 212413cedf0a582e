-- How a call is ruled: its checks in their order, the first that applies is given; if none does, it is done. Assumes nothing.
use Rattle.std.specs.Prelude.{◌≡◌, ◌⊎◌, List, [], ◌∷◌, ℕ, Result, Ok, Err}
use Rattle.facts.specs.declared.Code.{Code}
use Rattle.facts.specs.declared.Code.TheVariants.{Success}
use Rattle.facts.specs.Table.{Facts}

-- when it applies, and the code it gives
pub record Check : Type 1 where
  pub when : Type 0
  pub code : Code

infix 3 ◌gives◌
abbrev pub ◌gives◌ : Type 0 → Code → Check
A gives k = record { when = A; code = k }

-- "the first that applies is given": k is its code
abbrev pub FirstGiven : List Check → Code → Type 0
FirstGiven [] k = ⊥
FirstGiven (c ∷ cs) k = (c.when × (k ≡ c.code)) ⊎ ((c.when → ⊥) × FirstGiven cs k)

-- none applies
abbrev pub Passed : List Check → Type 0
Passed [] = Unit {0}
Passed (c ∷ cs) = (c.when → ⊥) × Passed cs

-- the code is the first check's that applies, and what a refusal keeps is kept; or none applies, and then the rest
abbrev pub DecidedThen : List Check → Code → Type 0 → Type 0 → Type 0
DecidedThen cs code kept rest = (FirstGiven cs code × kept) ⊎ (Passed cs × rest)

-- the same, where the rest is that it is done
abbrev pub Decided : List Check → Code → Type 0 → Type 0 → Type 0
Decided cs code kept done = DecidedThen cs code kept ((code ≡ Success) × done)

-- what a check answers: that P is so, or, since it isn't, the code k
abbrev pub Checked : {T : Type 0} → Type 0 → Code → Result T Code → Type 0
Checked P k (Ok x) = P
Checked P k (Err e) = (e ≡ k) × (P → ⊥)

-- or the code k, since P is so
abbrev pub RefusedIf : {T : Type 0} → Type 0 → Code → Result T Code → Type 0
RefusedIf P k (Ok x) = P → ⊥
RefusedIf P k (Err e) = (e ≡ k) × P

-- the code of an answer
abbrev pub code_in : {T : Type 0} → Result T Code → Code
code_in (Ok x) = Success
code_in (Err k) = k

-- what a call of a service answers and leaves
pub record Outcome : Type 0 where
  pub code : Code
  pub handle : ℕ
  pub packet : List ℕ
  pub facts : Facts

-- "a refusal answers 0"; "Every code but 00 leaves table and packet unchanged"
pub record Kept (F : Facts) (p : List ℕ) (o : Outcome) : Type 0 where
  pub handle : o.handle ≡ 0
  pub packet : o.packet ≡ p
  pub facts : o.facts ≡ F

-- it answers the handle h, and leaves the packet p and the facts F
pub record Leaves (h : ℕ) (p : List ℕ) (F : Facts) (o : Outcome) : Type 0 where
  pub handle : o.handle ≡ h
  pub packet : o.packet ≡ p
  pub facts : o.facts ≡ F

-- an outcome is the refusal of the first check that applies, or, if none does, what the rest of the rule permits
abbrev pub RuledThen : List Check → (Outcome → Type 0) → Facts → List ℕ → Outcome → Type 0
RuledThen cs rest F p o = DecidedThen cs o.code (Kept F p o) (rest o)

-- the same, where the rest is that it is done
abbrev pub Ruled : List Check → (Outcome → Type 0) → Facts → List ℕ → Outcome → Type 0
Ruled cs done F p o = Decided cs o.code (Kept F p o) (done o)

-- a rule: what is permitted for a set of facts, a handle and a packet
abbrev pub Rule : Type 1
Rule = Facts → ℕ → List ℕ → Outcome → Type 0
