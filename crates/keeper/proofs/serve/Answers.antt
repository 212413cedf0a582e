-- `keeper::serve` meets its contract: the table is not well formed, or the service rules, or the number is no service's.
-- Assumes nothing.
use Rattle.facts.proofs.Words.{rules, arith}
use Rattle.facts.specs.{Bytes, register_client, deregister_client, adjust_resource_info, request_irq, release_irq, request_io, release_io, request_socket_mask}
use Rattle.facts.specs.{release_socket_mask}
use Rattle.keeper.proofs.{NoService, call_unformed, unsupported, by_service}
use Rattle.keeper.proofs.serve.Goals as goal

pub returns-in_default : goal.returns-in_default
returns-in_default c =
    let bytes : Bytes c.args.packet.now = λ at. omega (arith, c.type_inv.packet at) in
    call_unformed c.args.table.now c.in_default.ensures.1 c.args.service c.args.h.0 c.args.packet.now bytes

pub returns-in-2 : goal.returns-in-2
returns-in-2 c =
    by_service deregister_client _ _ _ _ _ _ c.deregister.result (λ at. search rules) c.in-2.is c.deregister.ensures

pub returns-in-16 : goal.returns-in-16
returns-in-16 c =
    by_service register_client _ _ _ _ _ _ c.register.result (λ at. search rules) c.in-16.is c.register.ensures

pub returns-in-27 : goal.returns-in-27
returns-in-27 c =
    by_service release_io _ _ _ _ _ _ c.release.result (λ at. search rules) c.in-27.is c.release.ensures

pub returns-in-28 : goal.returns-in-28
returns-in-28 c =
    by_service release_irq _ _ _ _ _ _ c.release-in-28.result (λ at. search rules) c.in-28.is c.release-in-28.ensures

pub returns-in-31 : goal.returns-in-31
returns-in-31 c =
    by_service request_io _ _ _ _ _ _ c.request.result (λ at. search rules) c.in-31.is c.request.ensures

pub returns-in-32 : goal.returns-in-32
returns-in-32 c =
    by_service request_irq _ _ _ _ _ _ c.request-in-32.result (λ at. search rules) c.in-32.is c.request-in-32.ensures

pub returns-in-34 : goal.returns-in-34
returns-in-34 c =
    by_service request_socket_mask _ _ _ _ _ _ c.request-in-34.result (λ at. search rules) c.in-34.is c.request-in-34.ensures

pub returns-in-47 : goal.returns-in-47
returns-in-47 c =
    by_service release_socket_mask _ _ _ _ _ _ c.release-in-47.result (λ at. search rules) c.in-47.is c.release-in-47.ensures

pub returns-in-53 : goal.returns-in-53
returns-in-53 c =
    by_service adjust_resource_info _ _ _ _ _ _ c.adjust.result (λ at. search rules) c.in-53.is c.adjust.ensures

pub returns-in_default-service : goal.returns-in_default-service
returns-in_default-service c =
    let bytes : Bytes c.args.packet.now = λ at. omega (arith, c.type_inv.packet at) in
    let no_service : NoService c.args.service =
    record {
      no_deregister = omega arith;
      no_register = omega arith;
      no_io_release = omega arith;
      no_irq_release = omega arith;
      no_io_request = omega arith;
      no_irq_request = omega arith;
      no_mask_request = omega arith;
      no_mask_release = omega arith;
      no_adjust = omega arith;
    } in
    let a = c.args in
    unsupported c.args.table.now c.args.packet.now a.service a.h.0 bytes c.in-Ok.ensures no_service
