-- What the loop of `managed_boot::walk` keeps: the walk has come to a place of the list, and the table, `fn.t` at first, is as it is there.
use Rattle.facts.proofs.Words.{◌≤◌, length, drop}
use Rattle.facts.specs.{Success}
use Rattle.managed_boot.proofs.{Walked}
use Rattle.managed_boot.proofs.walk.Given as goal

abbrev pub invariant-loop-place : goal.invariant-loop-place
invariant-loop-place l = (l.place ≤ length l.records) × Walked Success l.records l.fn.t l.t l.place (drop l.place l.records)
