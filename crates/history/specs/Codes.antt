-- The codes that each service and each host call can give. Assumes nothing.
use Rattle.std.specs.Prelude.{List, [], ◌∷◌, ℕ}
use Rattle.facts.specs.declared.Code.{Code}
use Rattle.facts.specs.declared.Code.TheVariants.{Success, BadAttribute, BadBase, BadIrq, BadSize, BadSocket, NoCard, UnsupportedService}
use Rattle.facts.specs.declared.Code.TheVariants.{GeneralFailure, BadArgLength, BadArgs, InUse, NoMoreItems, OutOfResource, BadHandle}
use Rattle.facts.specs.Services.{Service, register_client, deregister_client, adjust_resource_info, request_irq, release_irq, request_io, release_io}
use Rattle.facts.specs.Services.{request_socket_mask, release_socket_mask, service_number, Serves}
use Rattle.history.specs.Events.{Keeper, make_fresh, call, card_in, card_out, boot, sharers}

-- a service's number, a number that is no service's, or a call of the host
pub data Asked : Type 0 where
  service : Service → Asked
  no_service card_in_case card_out_case boot_list sharers_of fresh_table : Asked

-- the codes, as the checks give them: the table's first, SUCCESS last
abbrev pub codes_of : Asked → List Code
codes_of (service register_client) = GeneralFailure ∷ BadArgLength ∷ BadAttribute ∷ OutOfResource ∷ Success ∷ []
codes_of (service deregister_client) = GeneralFailure ∷ BadArgLength ∷ BadHandle ∷ InUse ∷ Success ∷ []
codes_of (service adjust_resource_info) =
    GeneralFailure ∷ BadArgLength ∷ BadArgs ∷ UnsupportedService ∷ BadAttribute ∷ BadIrq ∷ BadSize ∷ BadBase ∷ InUse ∷ OutOfResource
    ∷ NoMoreItems ∷ Success ∷ []
codes_of (service request_irq) =
    GeneralFailure ∷ BadArgLength ∷ BadHandle ∷ BadSocket ∷ NoCard ∷ BadAttribute ∷ BadArgs ∷ InUse ∷ BadIrq ∷ Success ∷ []
codes_of (service release_irq) = GeneralFailure ∷ BadArgLength ∷ BadHandle ∷ BadSocket ∷ BadIrq ∷ BadAttribute ∷ Success ∷ []
codes_of (service request_io) =
    GeneralFailure ∷ BadArgLength ∷ BadHandle ∷ BadSocket ∷ NoCard ∷ BadAttribute ∷ BadSize ∷ InUse ∷ BadBase ∷ Success ∷ []
codes_of (service release_io) = GeneralFailure ∷ BadArgLength ∷ BadHandle ∷ BadSocket ∷ BadSize ∷ BadBase ∷ Success ∷ []
codes_of (service request_socket_mask) = GeneralFailure ∷ BadArgLength ∷ BadHandle ∷ BadSocket ∷ NoCard ∷ BadAttribute ∷ InUse ∷ Success ∷ []
codes_of (service release_socket_mask) = GeneralFailure ∷ BadArgLength ∷ BadHandle ∷ BadSocket ∷ Success ∷ []
codes_of no_service = GeneralFailure ∷ UnsupportedService ∷ []
codes_of card_in_case = GeneralFailure ∷ BadSocket ∷ Success ∷ []
codes_of card_out_case = GeneralFailure ∷ BadSocket ∷ Success ∷ []
codes_of boot_list =
    GeneralFailure ∷ BadArgLength ∷ UnsupportedService ∷ BadArgs ∷ BadAttribute ∷ BadIrq ∷ BadSize ∷ BadBase ∷ InUse ∷ OutOfResource
    ∷ Success ∷ []
codes_of sharers_of = GeneralFailure ∷ BadIrq ∷ Success ∷ []
codes_of fresh_table = GeneralFailure ∷ Success ∷ []

-- the keeper permits that code, for some table and something given
abbrev pub CanGive : Keeper → Asked → Code → Type 0
CanGive K (service v) k = (h a : ℕ) × (p q b b' : List ℕ) × K (call (service_number v) h p k a q) b b'
CanGive K no_service k = (n h a : ℕ) × (p q b b' : List ℕ) × (Serves n → ⊥) × K (call n h p k a q) b b'
CanGive K card_in_case k = (s : ℕ) × (b b' : List ℕ) × K (card_in s k) b b'
CanGive K card_out_case k = (s : ℕ) × (b b' : List ℕ) × K (card_out s k) b b'
CanGive K boot_list k = (r b b' : List ℕ) × (i : ℕ) × K (boot r k i) b b'
CanGive K sharers_of k = (l c : ℕ) × (b b' : List ℕ) × K (sharers l k c) b b'
CanGive K fresh_table k = (n : ℕ) × (b b' : List ℕ) × K (make_fresh n k) b b'
