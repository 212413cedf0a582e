-- `caller::visit` meets its contract: six calls, one after the other, are a run. Assumes nothing.
use Rattle.caller.specs.{Plan, planned}
use Rattle.caller.proofs.{visited}
use Rattle.caller.proofs.visit.Goals as goal

-- all six were called
pub returns : goal.returns
returns c =
    let plan : Plan = let a = c.args in planned a.sockets (a.records.now) a.socket a.service a.handle (a.packet.now) a.level in
    visited plan _ _ _ _ _ _ _ c.fresh-made.result _ c.if-made-ne-SUCCESS.false c.fresh-made.ensures c.boot-booted.ensures c.card_in-inserted.ensures
    c.call-called.ensures c.sharers-shared.ensures c.card_out-removed.ensures
