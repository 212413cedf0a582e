-- `io_candidates::choose` meets its contract: the search wants what is asked, by the bars of the live grants.
-- Assumes nothing.
use Rattle.facts.proofs.Words.{arith}
use Rattle.io_candidates.proofs.{smallest_power_lines}
use Rattle.io_candidates.proofs.choose.Goals as goal

pub invariant_of-wanted-clause-step_power : goal.invariant_of-wanted-clause-step_power
invariant_of-wanted-clause-step_power c = smallest_power_lines _ _ c.align.ensures (omega (arith, c.requires.2))

pub invariant_of-wanted-clause-limit_power : goal.invariant_of-wanted-clause-limit_power
invariant_of-wanted-clause-limit_power c = record { lines = c.args.asked.lines; most = c.requires.3; is = c.limit_of-limit.ensures }
