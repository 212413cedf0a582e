-- Every call leaves a well-formed set well formed. Assumes nothing.
use Rattle.facts.proofs.Words.{sym, subst, inl, inr, List, ℕ, WellFormed}
use Rattle.facts.specs.{Facts, Outcome, Service, register_client, deregister_client, adjust_resource_info, request_irq, release_irq, request_io}
use Rattle.facts.specs.{release_io, request_socket_mask, release_socket_mask, rule_of, Call, Bytes}
use Rattle.facts.proofs.ClientsStay.{register_stays, deregister_stays, request_mask_stays, release_mask_stays}
use Rattle.facts.proofs.ResourcesStay.{adjust_stays}
use Rattle.facts.proofs.GrantsStay.{request_irq_stays, release_irq_stays, request_io_stays, release_io_stays}

service_stays : (v : Service) (F : Facts) (h : ℕ) (p : List ℕ) (o : Outcome) → WellFormed F → Bytes p → rule_of v F h p o
    → WellFormed o.facts
service_stays register_client F h p o w b = register_stays F h p o w
service_stays deregister_client F h p o w b = deregister_stays F h p o w
service_stays adjust_resource_info F h p o w b = adjust_stays F h p o w
service_stays request_irq F h p o w b = request_irq_stays F h p o w
service_stays release_irq F h p o w b = release_irq_stays F h p o w
service_stays request_io F h p o w b = request_io_stays F h p o w b
service_stays release_io F h p o w b = release_io_stays F h p o w
service_stays request_socket_mask F h p o w b = request_mask_stays F h p o w
service_stays release_socket_mask F h p o w b = release_mask_stays F h p o w

-- a number that is no service's leaves everything
pub call_stays : (n : ℕ) (F : Facts) (h : ℕ) (p : List ℕ) (o : Outcome) → WellFormed F → Bytes p → Call n F h p o → WellFormed o.facts
call_stays n F h p o w b (inl r) = service_stays r.0.service F h p o w b r.1
call_stays n F h p o w b (inr r) = subst WellFormed (sym r.2.facts) w
