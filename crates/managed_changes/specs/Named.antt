-- The resource type that a byte names. Assumes nothing.
use Rattle.std.specs.Prelude.{◌≡◌, [], ℕ, Result, Ok, Err}
use Rattle.facts.specs.declared.Code.{Code}
use Rattle.facts.specs.Checks.{FirstGiven}
use Rattle.facts.specs.Resources.{io_range, irq_level, resource_checks}
use Rattle.managed_changes.specs.declared.Resource.{Resource}
use Rattle.managed_changes.specs.declared.Resource.TheVariants.{Io, Irq}

-- a resource type's number
abbrev pub number : Resource → ℕ
number Io = io_range
number Irq = irq_level

-- the byte is the number of a resource type that is built, or the first check gives the code
abbrev pub ResourceIs : ℕ → Result Resource Code → Type 0
ResourceIs n (Ok r) = n ≡ number r
ResourceIs n (Err k) = FirstGiven (resource_checks n []) k
