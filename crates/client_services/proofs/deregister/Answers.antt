-- `client_services::deregister` meets its contract: each check's answer says which end of the rule it is.
-- Assumes nothing.
use Rattle.facts.proofs.Words.{refl, inl, inr, arith}
use Rattle.facts.proofs.{handed, given, missing}
use Rattle.layout.proofs.Of
use Rattle.layout.proofs.{sound_in}
use Rattle.client_record.specs.{ListedAt, Finds}
use Rattle.client_services.specs.Clients.{DeregisterServed}
use Rattle.client_services.proofs.{found_live, holds_all, deregister_refused, deregister_done}
use Rattle.client_services.proofs.deregister.Goals as goal

pub returns-in_err-sized : goal.returns-in_err-sized
returns-in_err-sized c =
    handed (DeregisterServed _ _ _ _) _ c.from_residual.ensures c.in_err-sized.ensures.0
    (deregister_refused c.requires (inl (c.in_err-sized.ensures.1, refl)))

pub client_at-requires : goal.client_at-requires
client_at-requires c =
    let sound = sound_in _ c.requires in (sound.size, sound.clients_most)

pub returns-in_err-i : goal.returns-in_err-i
returns-in_err-i c =
    let x = missing (Finds c.args.t.now c.args.h.0) _ _ c.ok_or.ensures.value c.in_err-i.was c.client_at.ensures in
    handed (DeregisterServed _ _ _ _) _ c.from_residual-in_err-i.ensures x.0
    (deregister_refused c.requires (inr ((λ d. d c.in_ok-sized.ensures), inl ((λ l. x.1 (Of.listed_live _ c.requires _ l)), refl))))

pub holds_nothing-requires : goal.holds_nothing-requires
holds_nothing-requires c =
    let found : ListedAt c.args.t.now c.args.h.0 c.in_ok-i.i = given (Finds _ _) _ _ c.ok_or.ensures.value c.in_ok-i.was c.client_at.ensures in
    let sound = sound_in _ c.requires in
    (sound.size, omega (arith, found.listed, sound.clients_most))

pub returns-in_err-holds_nothing : goal.returns-in_err-holds_nothing
returns-in_err-holds_nothing c =
    let found : ListedAt c.args.t.now c.args.h.0 c.in_ok-i.i = given (Finds _ _) _ _ c.ok_or.ensures.value c.in_ok-i.was c.client_at.ensures in
    let a = c.requires in
    let held = holds_all a found c.in_err-holds_nothing.ensures.1 in
    handed (DeregisterServed _ _ _ _) _ c.from_residual-in_err-holds_nothing.ensures c.in_err-holds_nothing.ensures.0
    (deregister_refused a (inr ((λ d. d c.in_ok-sized.ensures), inr ((λ d. d (found_live a found)), inl (held, refl)))))

pub withdraw-requires : goal.withdraw-requires
withdraw-requires c =
    let found : ListedAt c.args.t.now c.args.h.0 c.in_ok-i.i = given (Finds _ _) _ _ c.ok_or.ensures.value c.in_ok-i.was c.client_at.ensures in
    let sound = sound_in _ c.requires in
    (sound.size, found.listed, sound.clients_most)

pub returns : goal.returns
returns c =
    let found : ListedAt c.args.t.now c.args.h.0 c.in_ok-i.i = given (Finds _ _) _ _ c.ok_or.ensures.value c.in_ok-i.was c.client_at.ensures in
    deregister_done c.requires c.in_ok-sized.ensures found c.in_ok-holds_nothing.ensures c.withdraw.ensures
