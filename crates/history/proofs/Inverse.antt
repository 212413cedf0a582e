-- What a service makes and gives back, and that it is nothing else. Assumes nothing.
use Rattle.facts.proofs.Words.{◌≡◌, List, Bool, ℕ, length}
use Rattle.facts.specs.{Record, Width, IoGrant, IrqGrant, client_attributes, client_events, socket_of, events_asked, action_of, resource_of, add, remove}
use Rattle.facts.specs.{irq_level, io_range, level_given, level_attributes, io_adjust_length, reserves, base_given, count_given, attributes_given, type_of}
use Rattle.facts.specs.{assigned_irq, type_asked_lem, base_asked_lem, count_asked_lem, register_client, deregister_client, io_asked, irq_asked}
use Rattle.facts.specs.{adjust_resource_info, request_irq, release_irq, request_io, release_io, request_socket_mask, release_socket_mask, io_grant, irq_grant}
use Rattle.history.specs.{Fact, client, mask, level, range, io, irq, Made, GivenBack, Recorded, client_made, mask_made, level_made, range_made}
use Rattle.history.specs.{io_made, irq_made, client_back, mask_back, level_back, range_back, io_back, irq_back, level_recorded, range_recorded}

module _ {h : ℕ} {p : List ℕ} {a : ℕ} {q : List ℕ} (P : Fact → Type 0) where
  pub client_only : P (client a (client_attributes p) (client_events p)) → (f : Fact) → Made h p a q register_client f → P f
  client_only x f client_made = x

  pub mask_only : P (mask h (socket_of p) (events_asked p)) → (f : Fact) → Made h p a q request_socket_mask f → P f
  mask_only x f mask_made = x

  pub io_only : P (io (socket_of p) (io_grant h (io_asked p) (base_asked_lem q)))
      → (f : Fact) → Made h p a q request_io f → P f
  io_only x f io_made = x

  pub irq_only : P (irq (socket_of p) (irq_grant h (irq_asked p) (assigned_irq q)))
      → (f : Fact) → Made h p a q request_irq f → P f
  irq_only x f irq_made = x

  pub adjusted_only : (resource_of p ≡ irq_level → action_of p ≡ add → P (level (level_given p) (reserves (level_attributes p))))
      → ((w : Width) → length p ≡ io_adjust_length w → resource_of p ≡ io_range → action_of p ≡ add → P (range (record { base = base_given w p; count = count_given w p; reserved = reserves (attributes_given w p) })))
      → (f : Fact) → Made h p a q adjust_resource_info f → P f
  adjusted_only l r f (level_made e i) = l e i
  adjusted_only l r f (range_made w n e i) = r w n e i

  -- releases make nothing
  pub deregister_makes_none : (f : Fact) → Made h p a q deregister_client f → P f
  deregister_makes_none f = elim [ ]

  pub release_mask_makes_none : (f : Fact) → Made h p a q release_socket_mask f → P f
  release_mask_makes_none f = elim [ ]

  pub release_io_makes_none : (f : Fact) → Made h p a q release_io f → P f
  release_io_makes_none f = elim [ ]

  pub release_irq_makes_none : (f : Fact) → Made h p a q release_irq f → P f
  release_irq_makes_none f = elim [ ]

module _ {h : ℕ} {p : List ℕ} (P : Fact → Type 0) where
  pub client_back_only : ((attributes events : ℕ) → P (client h attributes events)) → (f : Fact) → GivenBack h p deregister_client f → P f
  client_back_only x f client_back = x _ _

  pub mask_back_only : ((events : ℕ) → P (mask h (socket_of p) events)) → (f : Fact) → GivenBack h p release_socket_mask f → P f
  mask_back_only x f mask_back = x _

  pub io_back_only : ((g : IoGrant) → g.client ≡ h → g.ports.base ≡ base_asked_lem p → g.ports.count ≡ count_asked_lem p → P (io (socket_of p) g))
      → (f : Fact) → GivenBack h p release_io f → P f
  io_back_only x f (io_back holder base count) = x _ holder base count

  pub irq_back_only : ((g : IrqGrant) → g.client ≡ h → g.level ≡ assigned_irq p → type_of g.manner ≡ type_asked_lem p → P (irq (socket_of p) g))
      → (f : Fact) → GivenBack h p release_irq f → P f
  irq_back_only x f (irq_back holder number type) = x _ holder number type

  pub adjusted_back_only : ((v : Bool) → resource_of p ≡ irq_level → action_of p ≡ remove → P (level (level_given p) v))
      → ((v : Bool) (w : Width) → length p ≡ io_adjust_length w → resource_of p ≡ io_range → action_of p ≡ remove
      → P (range (record { base = base_given w p; count = count_given w p; reserved = v })))
      → (f : Fact) → GivenBack h p adjust_resource_info f → P f
  adjusted_back_only l r f (level_back e i) = l _ e i
  adjusted_back_only l r f (range_back w n e i) = r _ w n e i

  -- registrations and requests give nothing back
  pub register_keeps : (f : Fact) → GivenBack h p register_client f → P f
  register_keeps f = elim [ ]

  pub request_mask_keeps : (f : Fact) → GivenBack h p request_socket_mask f → P f
  request_mask_keeps f = elim [ ]

  pub request_io_keeps : (f : Fact) → GivenBack h p request_io f → P f
  request_io_keeps f = elim [ ]

  pub request_irq_keeps : (f : Fact) → GivenBack h p request_irq f → P f
  request_irq_keeps f = elim [ ]

-- what a boot record makes
pub recorded_only : {r : Record} (P : Fact → Type 0) → (r.resource ≡ irq_level → P (level r.base (reserves r.attributes)))
    → (r.resource ≡ io_range → P (range (record { base = r.base; count = r.count; reserved = reserves r.attributes })))
    → (f : Fact) → Recorded r f → P f
recorded_only P l r f (level_recorded e) = l e
recorded_only P l r f (range_recorded e) = r e
