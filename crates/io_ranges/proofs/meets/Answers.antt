-- `io_ranges::meets` meets its contract: one remainder decides whether two ranges that have ports meet.
-- Assumes nothing.
use Rattle.facts.proofs.Words.{arith}
use Rattle.io_ranges.proofs.{meet_says}
use Rattle.io_ranges.proofs.meets.Goals as goal

pub returns : goal.returns
returns c =
    rw c.power-modulus.ensures
    (meet_says c.args.a c.args.b c.min.result c.min.ensures (omega arith) (omega arith) (omega arith) (omega arith))
