-- What an answer's cases say. Assumes nothing.
use Rattle.std.specs.Prelude.{ℕ, Result, Ok, Err}
use Rattle.facts.specs.declared.Code.{Code}
use Rattle.facts.specs.declared.Handle.{Handle}

-- "It answers a code and a handle."; "a refusal answers 0"
abbrev pub handle_of : Result Handle Code → ℕ
handle_of (Ok h) = h.0
handle_of (Err k) = 0
