-- `service_checks::begin` meets its contract: each check's answer says which of the first checks it is, or that none applies.
-- Assumes nothing.
use Rattle.facts.proofs.Words.{arith}
use Rattle.facts.proofs.{handed, given, missing}
use Rattle.layout.proofs.{size_in, sockets_in_lem, clients_in_lem}
use Rattle.layout.proofs.Of.{live_listed}
use Rattle.client_record.specs.{ListedAt, Finds}
use Rattle.service_checks.specs.{BegunIs}
use Rattle.service_checks.proofs.{by_handle, by_socket, by_card}
use Rattle.service_checks.proofs.begin.Goals as goal

pub client_at-requires : goal.client_at-requires
client_at-requires c =
    let a = c.requires.0 in
    (size_in c.args.t.now a, omega (arith, clients_in_lem c.args.t.now a, a.formed.clients_most))

pub returns-in_err-i : goal.returns-in_err-i
returns-in_err-i c =
    let x = missing (Finds c.args.t.now c.args.h.0) _ _ c.ok_or.ensures.value c.in_err-i.was c.client_at.ensures in
    handed (BegunIs _ _ _ _ _) _ c.from_residual-in_err-i.ensures x.0
    (λ a. by_handle a c.args.p.now c.args.n c.args.h.0 c.in_ok-sized.ensures c.args.need x.1)

pub socket_named-requires : goal.socket_named-requires
socket_named-requires c =
    (size_in c.args.t.now c.requires.0, omega (arith, c.in_ok-sized.ensures, c.requires.1))

pub returns-in_err-socket : goal.returns-in_err-socket
returns-in_err-socket c =
    let found : ListedAt c.args.t.now c.args.h.0 c.in_ok-i.i = given (Finds _ _) _ _ c.ok_or.ensures.value c.in_ok-i.was c.client_at.ensures in
    handed (BegunIs _ _ _ _ _) _ c.from_residual-in_err-socket.ensures c.in_err-socket.ensures.0
    (λ a. by_socket a c.args.p.now c.args.n c.args.h.0 c.in_ok-sized.ensures (live_listed c.args.t.now a _ _ found.listed found.handle) c.args.need
    c.in_err-socket.ensures.1)

pub card_asked-requires : goal.card_asked-requires
card_asked-requires c =
    let a = c.requires.0 in
    (size_in c.args.t.now a, omega (arith, c.in_ok-socket.ensures.number, c.in_ok-socket.ensures.counted, sockets_in_lem c.args.t.now a, a.formed.sockets_most))

pub returns-in_err-card_asked : goal.returns-in_err-card_asked
returns-in_err-card_asked c =
    let found : ListedAt c.args.t.now c.args.h.0 c.in_ok-i.i = given (Finds _ _) _ _ c.ok_or.ensures.value c.in_ok-i.was c.client_at.ensures in
    handed (BegunIs _ _ _ _ _) _ c.from_residual-in_err-card_asked.ensures c.in_err-card_asked.ensures.0
    (λ a. by_card a c.args.p.now c.args.n c.args.h.0 c.in_ok-sized.ensures (live_listed c.args.t.now a _ _ found.listed found.handle) c.in_ok-socket.ensures
    c.args.need c.in_err-card_asked.ensures.1)

pub new-requires : goal.new-requires
new-requires c =
    let a = c.requires.0 in
    omega (arith, c.in_ok-socket.ensures.number, c.in_ok-socket.ensures.counted, sockets_in_lem c.args.t.now a, a.formed.sockets_most)
