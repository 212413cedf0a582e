-- `managed_boot::boot` meets its contract: a record is refused, some more are added, and at the end too few bytes are left for a record, or none.
-- Assumes nothing.
use Rattle.facts.proofs.Words.{refl, ◌+◌, ◌*◌, ◌≤◌, arith, length}
use Rattle.facts.specs.{record_size}
use Rattle.managed_boot.proofs.{walked_none, bytes_all, bytes_broken, bytes_more, bytes_stopped}
use Rattle.managed_boot.proofs.boot.Goals as goal

pub loop-at-init : goal.loop-at-init
loop-at-init c = (omega arith, refl, walked_none c.requires)

pub overflow_add-result : goal.overflow_add-result
overflow_add-result c =
    let full : c.loop-at.at + c.next-n.result * record_size ≤ length c.args.records.now = omega (arith, c.next-n.ensures, c.loop-at.invariant.0) in
    let refusal = bytes_stopped c.args.records.now c.loop-at.at c.loop-at.invariant.2 c.next-n.result full c.in-Err.ensures in
    omega (arith, c.next-n.ensures, c.loop-at.invariant.1, refusal.0)

pub returns-in-Err : goal.returns-in-Err
returns-in-Err c =
    let full : c.loop-at.at + c.next-n.result * record_size ≤ length c.args.records.now = omega (arith, c.next-n.ensures, c.loop-at.invariant.0) in
    (bytes_stopped c.args.records.now c.loop-at.at c.loop-at.invariant.2 c.next-n.result full c.in-Err.ensures).1

pub loop-at-preserved : goal.loop-at-preserved
loop-at-preserved c =
    let l = c.loop-at in
    let full : l.at + c.next-n.result * record_size ≤ length c.args.records.now = omega (arith, c.next-n.ensures, l.invariant.0) in
    (full, omega (arith, l.invariant.1), bytes_more c.args.records.now l.at l.invariant.2 c.next-n.result full c.in_default.ensures)

pub returns-then-at-bytes : goal.returns-then-at-bytes
returns-then-at-bytes c =
    let l = c.loop-at in
    bytes_broken c.args.records.now l.at l.invariant.2 l.invariant.1 c.if-at-bytes.true (omega (arith, c.loop-at-test.false))

pub returns : goal.returns
returns c =
    let l = c.loop-at in
    bytes_all c.args.records.now l.at l.invariant.2 l.invariant.1 (omega (arith, c.if-at-bytes.false)) l.invariant.0
