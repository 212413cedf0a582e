-- What the boot list and one record of it come to. Assumes nothing.
use Rattle.std.specs.Prelude.{◌≢◌, List, ℕ, Result, Ok, Err}
use Rattle.facts.specs.declared.Code.{Code}
use Rattle.facts.specs.declared.Code.TheVariants.{Success}
use Rattle.facts.specs.declared.Record.{Record}
use Rattle.facts.specs.Table.{Facts}
use Rattle.facts.specs.Boot.{BootRecords, BootBytes, stopped, record_checks, record_added}
use Rattle.facts.specs.Boot as rule
use Rattle.layout.specs.Served.{Served}
use Rattle.managed_changes.specs.Changing.{Changes}
use Rattle.managed_boot.specs.declared.Stopped.{Stopped}

-- as many records are taken out of a list's bytes at a time
abbrev pub at_once : ℕ
at_once = 8

-- one record
abbrev pub AddsRecord : Record → List ℕ → List ℕ → Result (Unit {0}) Code → Type 0
AddsRecord r = Changes (λ (F : Facts). record_checks F r) (λ (F : Facts). record_added F r)

-- the place and the code that a list answers
abbrev pub place_of : Result ℕ Stopped → ℕ
place_of (Ok n) = n
place_of (Err x) = x.place

abbrev pub code_of : Result ℕ Stopped → Code
code_of (Ok n) = Success
code_of (Err x) = x.code

-- a list that stopped was refused
abbrev pub Refuses : Result ℕ Stopped → Type 0
Refuses (Ok n) = Unit {0}
Refuses (Err x) = x.code ≢ Success

-- a list is served as its rule says, and ends so
abbrev pub Ends : (Facts → rule.Booted → Type 0) → List ℕ → List ℕ → Result ℕ Stopped → Type 0
Ends R b b' r = Served (λ (F G : Facts). R F (stopped (place_of r) (code_of r) G)) b b' × Refuses r

-- a slice of records
abbrev pub BootsRecords : List Record → List ℕ → List ℕ → Result ℕ Stopped → Type 0
BootsRecords rs = Ends (λ (F : Facts). BootRecords F rs)

-- the list's bytes
abbrev pub Boots : List ℕ → List ℕ → List ℕ → Result ℕ Stopped → Type 0
Boots records = Ends (λ (F : Facts). BootBytes F records)
