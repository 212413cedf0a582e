-- `grants::enter_ports` meets its contract: the five fields, one after the other.
-- Assumes nothing.
use Rattle.grants.proofs.{enters_ports}
use Rattle.grants.proofs.enter_ports.Goals as goal

pub returns : goal.returns
returns c =
    let s = c.args in
    enters_ports (s.t.now) _ _ _ s.seat.number s.h.0 s.ports.base c.io_place-at.ensures.0 c.put_word.ensures
    c.put_word-2.ensures s.ports.count s.ports.lines s.shared
