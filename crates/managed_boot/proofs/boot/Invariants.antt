-- What the loop of `managed_boot::boot` keeps: the walk has come to a place, and what the rest of the list permits from there is the rule's.
use Rattle.facts.proofs.Words.{◌≡◌, ◌*◌, ◌-◌, ◌≤◌, length, drop}
use Rattle.facts.specs.{record_size, records_of, end_of}
use Rattle.managed_boot.proofs.{Walked}
use Rattle.managed_boot.proofs.boot.Given as goal

abbrev pub invariant-loop-at : goal.invariant-loop-at
invariant-loop-at l =
    (l.at ≤ length l.records) × (l.at ≡ l.first * record_size)
    × Walked (end_of l.records) (records_of l.records) l.fn.t l.t l.first (records_of (drop l.at l.records))

abbrev pub decreases-loop-at : goal.decreases-loop-at
decreases-loop-at l = l.bytes - l.at
