-- `irq_fitting::levels_fitting` meets its contract: each level in turn.
-- Assumes nothing.
use Rattle.facts.proofs.Words.{◌≡◌, arith}
use Rattle.facts.specs.{all_levels}
use Rattle.layout.specs.{facts_in}
use Rattle.table_read.proofs.{exactly_more}
use Rattle.seats.proofs.{formed_in}
use Rattle.irq_fitting.proofs.{all_fitting}
use Rattle.irq_fitting.proofs.levels_fitting.Goals as goal

pub loop-l-preserved : goal.loop-l-preserved
loop-l-preserved c =
    let passed = c.loop-l.invariant in (
      omega arith,
      exactly_more _ _ _ passed.1 c.fitting_at-here.ensures.unreserved,
      exactly_more _ _ _ passed.2 c.fitting_at-here.ensures.reserved,
    )

pub returns : goal.returns
returns c =
    let k = c.loop-l in
    let b = c.args.t.now in
    let all : k.l ≡ all_levels = omega (arith, k.invariant.0, c.loop-l-test.false) in
    record {
      unreserved = all_fitting (facts_in b) (formed_in b c.requires.0) c.args.asked (rw all at k.invariant.1);
      reserved = all_fitting (facts_in b) (formed_in b c.requires.0) c.args.asked (rw all at k.invariant.2);
    }
