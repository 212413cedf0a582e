-- What a call on a table's bytes may leave. Assumes nothing.
use Rattle.std.specs.Prelude.{◌≡◌, List, ℕ}
use Rattle.facts.specs.declared.Code.{Code}
use Rattle.facts.specs.declared.Code.TheVariants.{GeneralFailure}
use Rattle.facts.specs.Table.{Facts}
use Rattle.facts.specs.Checks.{Outcome}
use Rattle.layout.specs.Layout.{image}
use Rattle.layout.specs.Sound.{Accepted}

-- the table says well-formed facts, R permits the call to leave others, and the table that is left is their image
pub record Served (R : Facts → Facts → Type 0) (b b' : List ℕ) : Type 0 where
  pub accepted : Accepted b
  pub after : Facts
  pub rule : R accepted.facts after
  pub table : image after ≡ b'

-- a service that answers a code and a handle and leaves the packet p' is served as its rule says
abbrev pub ServedBy : (Facts → Outcome → Type 0) → List ℕ → List ℕ → List ℕ → Code → ℕ → Type 0
ServedBy R b b' p' code handle = Served (λ (F G : Facts). R F (record { code = code; handle = handle; packet = p'; facts = G })) b b'

-- "Any other bytes, or another length, are refused with GENERAL_FAILURE.": no well-formed set has these bytes, and every byte stays
pub record TableRefused (b b' : List ℕ) (code : Code) : Type 0 where
  pub unformed : Accepted b → ⊥
  pub code_is : code ≡ GeneralFailure
  pub table : b' ≡ b
