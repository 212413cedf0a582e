-- What the question for sharers answers. Assumes nothing.
use Rattle.std.specs.Prelude.{List, ℕ, Result, Ok, Err}
use Rattle.facts.specs.declared.Code.{Code}
use Rattle.facts.specs.declared.Code.TheVariants.{Success}
use Rattle.facts.specs.Irq.{Count, Sharers}
use Rattle.layout.specs.Sound.{Accepted}

-- a code and a count; "a refusal's count is 0"
abbrev pub count_of : Result ℕ Code → Count
count_of (Ok n) = record { code = Success; count = n }
count_of (Err k) = record { code = k; count = 0 }

-- the answer is the rule's, on the facts that the table says
abbrev pub CountsSharers : ℕ → List ℕ → Result ℕ Code → Type 0
CountsSharers level b r = (a : Accepted b) × Sharers a.facts level (count_of r)
