-- What the loop of `managed_boot::taken` keeps: the first records of the array are those of the bytes.
use Rattle.facts.proofs.Words.{◌≡◌, ◌≤◌, length, take, drop}
use Rattle.facts.specs.{records_in}
use Rattle.managed_boot.specs.{at_once}
use Rattle.managed_boot.proofs.taken.Given as goal

abbrev pub invariant-loop-i : goal.invariant-loop-i
invariant-loop-i l = (l.i ≤ l.n) × (length l.all ≡ at_once) × (take l.i l.all ≡ records_in l.i (drop l.at l.records))
