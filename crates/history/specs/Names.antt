-- The names of facts, and which of them a call's rule names. Assumes nothing.
use Rattle.std.specs.Prelude.{◌≡◌, ◌↔◌, ◌⊎◌, List, ℕ, length}
use Rattle.facts.specs.declared.Code.TheVariants.{Success}
use Rattle.facts.specs.declared.Record.{Record}
use Rattle.facts.specs.declared.Width.{Width}
use Rattle.facts.specs.Table.{Facts}
use Rattle.facts.specs.Sets.{◌∈◌}
use Rattle.facts.specs.Sockets.{socket_of}
use Rattle.facts.specs.Resources.{action_of, resource_of, add, remove, irq_level, io_range, level_given, io_adjust_length, base_given}
use Rattle.facts.specs.Boot.{records_in}
use Rattle.facts.specs.Services.{Service, register_client, deregister_client, adjust_resource_info, request_irq, release_irq, request_io, release_io}
use Rattle.facts.specs.Services.{request_socket_mask, release_socket_mask, service_number}
use Rattle.history.specs.Events.{Event, make_fresh, call, card_in, card_out, boot, sharers}
use Rattle.history.specs.Stands.{Fact, client, mask, level, range, card, io, irq, Recorded}
use Rattle.history.specs.Tables.{Tells}

-- what can be spoken of in a table: client h, the mask of h at s, level l, the range at a base, what is in a socket, the number issued, the socket
-- count
pub data Name : Type 0 where
  the_client : (handle : ℕ) → Name
  the_mask : (handle socket : ℕ) → Name
  the_level : (number : ℕ) → Name
  the_range : (base : ℕ) → Name
  the_card the_io the_irq : (socket : ℕ) → Name
  the_issued the_sockets : Name

abbrev pub name_of : Fact → Name
name_of (client h a m) = the_client h
name_of (mask h s m) = the_mask h s
name_of (level l r) = the_level l
name_of (range r) = the_range r.base
name_of (card s) = the_card s
name_of (io s g) = the_io s
name_of (irq s g) = the_irq s

-- the names of a service that answers SUCCESS: it was given the handle h and the packet p, and answered the handle a. First and Next have none.
pub data NamedBy (h : ℕ) (p : List ℕ) (a : ℕ) : Service → Name → Type 0 where
  register_client_named : NamedBy h p a register_client (the_client a)
  register_issued : NamedBy h p a register_client the_issued
  deregister : NamedBy h p a deregister_client (the_client h)
  request_mask : NamedBy h p a request_socket_mask (the_mask h (socket_of p))
  release_mask : NamedBy h p a release_socket_mask (the_mask h (socket_of p))
  adjust_level : resource_of p ≡ irq_level → (action_of p ≡ add) ⊎ (action_of p ≡ remove) → NamedBy h p a adjust_resource_info (the_level (level_given p))
  adjust_range : (w : Width) → length p ≡ io_adjust_length w → resource_of p ≡ io_range → (action_of p ≡ add) ⊎ (action_of p ≡ remove)
      → NamedBy h p a adjust_resource_info (the_range (base_given w p))
  request_io_named : NamedBy h p a request_io (the_io (socket_of p))
  release_io_named : NamedBy h p a release_io (the_io (socket_of p))
  request_irq_named : NamedBy h p a request_irq (the_irq (socket_of p))
  release_irq_named : NamedBy h p a release_irq (the_irq (socket_of p))

-- the names that an event's rule names: none of a refusal, but for a boot list's records before the place that it answers; none of a question; all
-- of a table made fresh
abbrev pub Names : Event → Name → Type 0
Names (make_fresh n k) x = k ≡ Success
Names (call n h p k a q) x = (k ≡ Success) × (v : Service) × (service_number v ≡ n) × NamedBy h p a v x
Names (card_in s k) x = (k ≡ Success) × (x ≡ the_card s)
Names (card_out s k) x = (k ≡ Success) × (x ≡ the_card s)
Names (boot b k i) x = (r : Record) × (r ∈ records_in i b) × (f : Fact) × Recorded r f × (name_of f ≡ x)
Names (sharers l k c) x = ⊥

-- the name reads the same in both
pub record Alike (F G : Facts) (x : Name) : Type 0 where
  pub facts : (f : Fact) → name_of f ≡ x → Tells F f ↔ Tells G f
  pub issued : x ≡ the_issued → F.issued ≡ G.issued
  pub sockets : x ≡ the_sockets → F.sockets ≡ G.sockets

-- every name but the event's reads the same
abbrev pub Framed : Event → Facts → Facts → Type 0
Framed e F G = (x : Name) → (Names e x → ⊥) → Alike F G x
