-- What the check of a socket count answers. Assumes nothing.
use Rattle.std.specs.Prelude.{◌≡◌, ◌⊎◌, ℕ, ◌≤◌, ◌<◌, Result, Ok, Err}
use Rattle.facts.specs.declared.Code.{Code}
use Rattle.facts.specs.declared.Code.TheVariants.{GeneralFailure}
use Rattle.facts.specs.Table

-- "a count of 1 to 8", or not
abbrev pub SocketsAre : ℕ → Result ℕ Code → Type 0
SocketsAre n (Ok k) = (k ≡ n) × (1 ≤ n) × (n ≤ Table.most_sockets)
SocketsAre n (Err k) = (k ≡ GeneralFailure) × ((n ≡ 0) ⊎ (Table.most_sockets < n))
