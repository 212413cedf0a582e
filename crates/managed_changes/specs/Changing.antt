-- A change of what is managed, and the bits of an Add and of a Remove. Assumes nothing.
use Rattle.std.specs.Prelude.{◌≡◌, List, ℕ, eqb, Result, Ok, Err}
use Rattle.facts.specs.declared.Code.{Code}
use Rattle.facts.specs.declared.Code.TheVariants.{BadAttribute}
use Rattle.facts.specs.Table.{Facts}
use Rattle.facts.specs.Checks.{Check, FirstGiven, Passed}
use Rattle.facts.specs.Resources.{AddBits, reserve_bit}
use Rattle.layout.specs.Layout.{mark}
use Rattle.layout.specs.Served.{Served}

-- a change is made where none of its checks applies; or the first that does gives its code, and the facts stay
abbrev pub Changes : {T : Type 0} → (Facts → List Check) → (Facts → Facts) → List ℕ → List ℕ → Result T Code → Type 0
Changes checks after b b' (Ok x) = Served (λ (F G : Facts). Passed (checks F) × (G ≡ after F)) b b'
Changes checks after b b' (Err k) = Served (λ (F G : Facts). FirstGiven (checks F) k × (G ≡ F)) b b'

-- the bits of an Add: the reserve mark that they ask for, or others
abbrev pub ReserveIs : ℕ → Result ℕ Code → Type 0
ReserveIs a (Ok m) = AddBits a × (m ≡ mark (eqb a reserve_bit))
ReserveIs a (Err k) = (k ≡ BadAttribute) × (AddBits a → ⊥)
