-- `managed_boot::taken` meets its contract: the first records of the array are those of the bytes.
-- Assumes nothing.
use Rattle.facts.proofs.Words.{◌∙◌, arith, length-set}
use Rattle.managed_boot.proofs.{taken_more}
use Rattle.managed_boot.proofs.taken.Goals as goal

pub loop-i-preserved : goal.loop-i-preserved
loop-i-preserved c =
    let a = c.args in
    let l = c.loop-i in (
      omega (arith, c.loop-i-test.true),
      length-set l.all l.i c.record_at.result ∙ l.invariant.1,
      taken_more a.records.now a.at l.i l.all c.record_at.result
          (omega (arith, l.invariant.1, c.requires.0, c.loop-i-test.true)) c.record_at.ensures l.invariant.2,
    )
