-- `client_services::register` meets its contract: each check's answer says which end of the rule it is.
-- Assumes nothing.
use Rattle.facts.proofs.Words.{refl, inl, arith}
use Rattle.facts.proofs.{handed}
use Rattle.layout.proofs.{size_in}
use Rattle.client_services.specs.Clients.{RegisterServed}
use Rattle.client_services.proofs.{register_refused, register_bad, register_full, register_done}
use Rattle.client_services.proofs.register.Goals as goal

pub returns-in_err-sized : goal.returns-in_err-sized
returns-in_err-sized c =
    handed (RegisterServed _ _ _) _ c.from_residual.ensures c.in_err-sized.ensures.0
    (register_refused c.requires (inl (c.in_err-sized.ensures.1, refl)))

pub returns-in_err-attributes : goal.returns-in_err-attributes
returns-in_err-attributes c =
    handed (RegisterServed _ _ _) _ c.from_residual-in_err-attributes.ensures c.in_err-attributes.ensures.0
    (register_bad c.requires c.in_ok-sized.ensures c.in_err-attributes.ensures.1)

pub next_place-requires : goal.next_place-requires
next_place-requires c = size_in _ c.requires

pub returns-in_err-n : goal.returns-in_err-n
returns-in_err-n c =
    handed (RegisterServed _ _ _) _ c.from_residual-in_err-n.ensures c.in_err-n.ensures.0
    (register_full c.requires c.in_ok-sized.ensures c.in_ok-attributes.ensures c.in_err-n.ensures.1)

pub enter-requires : goal.enter-requires
enter-requires c =
    let asks = c.in_ok-attributes.ensures in
    (size_in _ c.requires, c.in_ok-n.ensures.room, omega (arith, asks.attributes_are, asks.attributes_allowed.bits))

pub returns : goal.returns
returns c =
    rw c.enter.ensures (register_done c.requires c.in_ok-sized.ensures c.in_ok-attributes.ensures c.in_ok-n.ensures)
