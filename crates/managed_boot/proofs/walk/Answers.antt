-- `managed_boot::walk` meets its contract: no record is left, or the next is refused, or the walk comes one record further.
-- Assumes nothing.
use Rattle.facts.proofs.Words.{◌≡◌, arith, length}
use Rattle.managed_boot.proofs.{walked_none, walked_one, walked_refused, walked_through}
use Rattle.managed_boot.proofs.walk.Goals as goal

pub loop-place-init : goal.loop-place-init
loop-place-init c = (omega arith, walked_none c.requires)

pub returns-in-Err : goal.returns-in-Err
returns-in-Err c = walked_refused c.loop-place.invariant.1 _ (omega arith) c.in-Err.ensures

pub loop-place-preserved : goal.loop-place-preserved
loop-place-preserved c = (omega arith, walked_one c.loop-place.invariant.1 _ (omega arith) c.in_default.ensures)

pub returns : goal.returns
returns c =
    let all : length c.args.records.now ≡ c.loop-place.place = omega arith in
    rw all (walked_through c.loop-place.invariant.1 (omega (arith, all)))
