-- What the loops of `table_masks::row_flaws` keep.
use Rattle.facts.proofs.Words.{List, ℕ, ◌+◌, ◌*◌, ◌≤◌, get_or}
use Rattle.facts.specs.{word}
use Rattle.layout.specs.{seat_room, mask_size}
use Rattle.table_read.proofs.{Flawless}
use Rattle.table_masks.proofs.row_flaws.Given as goal

-- the word of the seat k is not over its limit
abbrev pub Under : List ℕ → ℕ → List ℕ → ℕ → ℕ → Type 0
Under b at steps from k = word b (at + k * mask_size) ≤ get_or steps (from + k) 0

abbrev pub invariant-loop-k : goal.invariant-loop-k
invariant-loop-k l = (l.k ≤ seat_room) × Flawless (Under l.t l.at l.steps l.from) l.k l.flaws
