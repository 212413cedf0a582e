-- The nine services by their numbers, and the rule of a call. Assumes nothing.
use Rattle.std.specs.Prelude.{◌≡◌, ◌⊎◌, ℕ}
use Rattle.facts.specs.declared.Code.TheVariants.{UnsupportedService}
use Rattle.facts.specs.Checks.{Kept, Rule}
use Rattle.facts.specs.Clients.{Register, Deregister}
use Rattle.facts.specs.Sockets.{RequestSocketMask, ReleaseSocketMask}
use Rattle.facts.specs.Resources.{AdjustResourceInfo}
use Rattle.facts.specs.Irq.{RequestIrq, ReleaseIrq}
use Rattle.facts.specs.Io.{RequestIo, ReleaseIo}

-- "Built:"
pub data Service : Type 0 where
  register_client deregister_client adjust_resource_info request_irq release_irq request_io release_io request_socket_mask release_socket_mask : Service

abbrev pub service_number : Service → ℕ
service_number register_client = 0x10
service_number deregister_client = 0x02
service_number adjust_resource_info = 0x35
service_number request_irq = 0x20
service_number release_irq = 0x1C
service_number request_io = 0x1F
service_number release_io = 0x1B
service_number request_socket_mask = 0x22
service_number release_socket_mask = 0x2F

abbrev pub rule_of : Service → Rule
rule_of register_client = Register
rule_of deregister_client = Deregister
rule_of adjust_resource_info = AdjustResourceInfo
rule_of request_irq = RequestIrq
rule_of release_irq = ReleaseIrq
rule_of request_io = RequestIo
rule_of release_io = ReleaseIo
rule_of request_socket_mask = RequestSocketMask
rule_of release_socket_mask = ReleaseSocketMask

-- the number is that of a service
pub record Serves (number : ℕ) : Type 0 where
  pub service : Service
  pub number_is : service_number service ≡ number

-- "Checks run in this order and the first that applies is given: table, service, length ..": a number that is no service's is
-- UNSUPPORTED_SERVICE
abbrev pub Call : ℕ → Rule
Call number F h p o =
    ((s : Serves number) × rule_of s.service F h p o)
    ⊎ ((Serves number → ⊥) × (o.code ≡ UnsupportedService) × Kept F p o)
