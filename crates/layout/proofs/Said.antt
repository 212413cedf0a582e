-- What the records of clients, of ranges and of grants say is so of the facts read off them, and the other way round. Assumes nothing.
use Rattle.facts.proofs.Words.{◌≡◌, refl, ap, sym, ◌∙◌, subst, List, none, some, ℕ, ◌<◌, ℕ_discrete, arith}
use Rattle.facts.specs.{Client, Range, Managed, Has, Live, word}
use Rattle.facts.proofs.{told}
use Rattle.layout.specs.{clients_in, ranges_in, client_in, range_in, facts_in, LiveIn, ManagedIn, IoUsed, IrqUsed, io_here, irq_here, io_in, irq_in}
use Rattle.layout.specs.{io_bytes, irq_bytes, io_place_lem, io_size, ios_at, irq_size, irqs_at, seat_room}
use Rattle.layout.proofs.Lists.{up_to-in, in-up_to}
use Rattle.layout.proofs.Grants.{used_said, unused_said}

module _ (b : List ℕ) where
  -- a client is live as the records say
  pub live_of : (h : ℕ) → LiveIn b h → Live (facts_in b) h
  unfolding facts_in client_in
  live_of h m = record { client = client_in b m.0; listed = up_to-in (clients_in b) (client_in b) m.0 m.1; handle = m.2 }

  pub live_in : (h : ℕ) → Live (facts_in b) h → LiveIn b h
  unfolding facts_in client_in
  live_in h l =
      let r = in-up_to l.client (clients_in b) (client_in b) l.listed in
      (r.0, r.1, sym (ap (λ (c : Client). c.handle) r.2) ∙ l.handle)

  -- a port is managed as the records say
  pub managed_of : (p : ℕ) → ManagedIn b p → Managed (facts_in b) p
  unfolding facts_in range_in
  managed_of p m = record { range = range_in b m.0; listed = up_to-in (ranges_in b) (range_in b) m.0 m.1; has = m.2 }

  pub managed_in_lem : (p : ℕ) → Managed (facts_in b) p → ManagedIn b p
  unfolding facts_in range_in
  managed_in_lem p m =
      let r = in-up_to m.range (ranges_in b) (range_in b) m.listed in
      (r.0, r.1, subst (λ (x : Range). Has x p) r.2 m.has)

  -- a seat's grant is the one that its record says
  pub io_here_lem : (t : ℕ) → t < seat_room → IoUsed b t → (facts_in b).io t ≡ some (io_in b t)
  unfolding facts_in io_here
  io_here_lem = used_said io_bytes ios_at io_size (omega arith) refl b (io_in b)

  pub no_io_here : (t : ℕ) → t < seat_room → (IoUsed b t → ⊥) → (facts_in b).io t ≡ none
  unfolding facts_in io_here
  no_io_here t l d = unused_said io_bytes ios_at io_size (omega arith) refl b (io_in b) t l (told (ℕ_discrete (word b (io_place_lem t)) 0) d)

  pub irq_here_lem : (t : ℕ) → t < seat_room → IrqUsed b t → (facts_in b).irq t ≡ some (irq_in b t)
  unfolding facts_in irq_here
  irq_here_lem = used_said irq_bytes irqs_at irq_size (omega arith) refl b (irq_in b)
