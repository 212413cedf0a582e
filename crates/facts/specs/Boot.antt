-- The boot list: "a lent slice of resource records, added in order". Assumes nothing.
use Rattle.std.specs.Prelude.{List, [], ◌∷◌, cond, ℕ, zero, suc, ◌+◌, ◌/◌, ◌%◌, length, drop, eqb}
use Rattle.facts.specs.declared.Code.{Code}
use Rattle.facts.specs.declared.Code.TheVariants.{Success, BadArgLength}
use Rattle.facts.specs.declared.Record.{Record}
use Rattle.facts.specs.Table
use Rattle.facts.specs.Table.{Facts}
use Rattle.facts.specs.Packets.{byte, long}
use Rattle.facts.specs.Checks.{Check, FirstGiven, Passed}
use Rattle.facts.specs.Resources.{io_range, resource_checks, add_level_checks, add_range_checks, level_added, range_added}

-- "A record has a resource type and attributes of one byte, a base or level and a port count of four": the one at the head of the bytes
abbrev pub record_size : ℕ
record_size = 10

abbrev pub record_of : List ℕ → Record
record_of b = record { resource = byte b 0; attributes = byte b 1; base = long b 2; count = long b 6 }

-- the first n records of the bytes
abbrev pub records_in : ℕ → List ℕ → List Record
records_in zero b = []
records_in (suc n) b = record_of b ∷ records_in n (drop record_size b)

-- "it gets the code that Add's rules give those values, I/O in the long form with lines 16, IRQ without the count"
abbrev pub record_checks : Facts → Record → List Check
record_checks F r =
    resource_checks r.resource
    (cond (eqb r.resource io_range) (add_range_checks F r.base r.count r.attributes Table.most_lines)
    (add_level_checks F r.base r.attributes))

abbrev pub record_added : Facts → Record → Facts
record_added F r =
    cond (eqb r.resource io_range) (range_added F r.base r.count r.attributes) (level_added F r.base r.attributes)

-- the records, added in order, each to what those before it left
abbrev pub records_added : Facts → List Record → Facts
records_added F [] = F
records_added F (r ∷ rs) = records_added (record_added F r) rs

-- what a boot list answers and leaves
pub record Booted : Type 0 where
  pub place : ℕ
  pub code : Code
  pub facts : Facts

abbrev pub stopped : ℕ → Code → Facts → Booted
stopped i k F = record { place = i; code = k; facts = F }

-- "it stops at the first refused, answers its place (from 0) and code, and earlier ones stay". Boot e F rs i o: from the facts F, the records rs, of
-- which the first is the ith, give o; where they end, the code e is given.
pub data Boot (e : Code) : Facts → List Record → ℕ → Booted → Type 0 where
  ended : {F : Facts} {i : ℕ} → Boot e F [] i (stopped i e F)
  refused : {F : Facts} {r : Record} {rs : List Record} {i : ℕ} {k : Code} → FirstGiven (record_checks F r) k → Boot e F (r ∷ rs) i (stopped i k F)
  added : {F : Facts} {r : Record} {rs : List Record} {i : ℕ} {o : Booted} → Passed (record_checks F r) → Boot e (record_added F r) rs (i + 1) o
      → Boot e F (r ∷ rs) i o

-- the list is lent as a slice of records: "Success answers the list's length in records"
abbrev pub BootRecords : Facts → List Record → Booted → Type 0
BootRecords F rs = Boot Success F rs 0

-- or as their bytes: "bytes too few for a record at the end are refused at its place with BAD_ARG_LENGTH"
abbrev pub records_of : List ℕ → List Record
records_of b = records_in (length b / record_size) b

abbrev pub end_of : List ℕ → Code
end_of b = cond (eqb (length b % record_size) 0) Success BadArgLength

abbrev pub BootBytes : Facts → List ℕ → Booted → Type 0
BootBytes F b = Boot (end_of b) F (records_of b) 0
