-- `io_candidates::align` meets its contract: half of the power is below the count.
-- Assumes nothing.
use Rattle.io_candidates.proofs.{smallest_power}
use Rattle.io_candidates.proofs.align.Goals as goal

pub returns : goal.returns
returns c =
    let p = c.next_power_of_two.ensures in
    smallest_power c.args.count p.power.0 _ p.power.1 p.lower_bound p.upper_bound
