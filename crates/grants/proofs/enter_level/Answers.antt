-- `grants::enter_level` meets its contract: the three fields, one after the other.
-- Assumes nothing.
use Rattle.grants.proofs.{enters_level}
use Rattle.grants.proofs.enter_level.Goals as goal

pub returns : goal.returns
returns c =
    let s = c.args in
    enters_level (s.t.now) _ _ s.seat.number s.h.0 c.irq_place-at.ensures.0 c.put_word.ensures s.level s.manner
