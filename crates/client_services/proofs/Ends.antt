-- Each way in which RegisterClient and DeregisterClient end is the rule's. Assumes nothing.
use Rattle.facts.proofs.Words.{◌≡◌, refl, sym, ◌∙◌, ◌⊎◌, inl, inr, ⊎_elim, List, ℕ, ◌-◌, ◌≤◌, ◌<◌, ap, arith, length, length-set, Option, none, some}
use Rattle.layout.proofs.Of
use Rattle.facts.specs.{Code, Success, BadAttribute, OutOfResource, AttributesAllowed, EventsAllowed, Facts, IoGrant, IrqGrant, word}
use Rattle.facts.specs.{Live, Outcome, FirstGiven, register_checks, deregister_checks, Register, Deregister, register_length, deregister_length}
use Rattle.facts.specs.{HoldsIo, HoldsIrq, HoldsMask, most_clients, most_issued, most_seats}
use Rattle.layout.specs.{head_clients, clients_in, issued_in, handle_in, Accepted, ServedBy}
use Rattle.layout.specs.{entered, Withdrawn}
use Rattle.layout.proofs.{entered_image, withdrawn_image, mask_socket, mask_said, said_mask, kept, left, stays, becomes}
use Rattle.client_record.specs.{ListedAt}
use Rattle.seats.specs.{HeldBy}
use Rattle.client_services.specs.{Asks, NextIs, MaskHeldIn, HoldsSome}

-- the rules, of a packet
abbrev Registers : List ℕ → Facts → Outcome → Type 0
Registers p F = Register F 0 p

abbrev Deregisters : ℕ → List ℕ → Facts → Outcome → Type 0
Deregisters h p F = Deregister F h p

-- a client taken out of each row: the table keeps its size
pub withdrawn_size : {b b' : List ℕ} {i : ℕ} → Withdrawn b b' i → length b' ≡ length b
withdrawn_size {b} w =
    ap length w.number ∙ length-set w.b₄ head_clients (clients_in b - 1) ∙ w.masks.size ∙ w.events.size ∙ w.attributes.size
    ∙ w.handles.size

module _ {b p : List ℕ} (a : Accepted b) where
  pub register_refused : {k : Code} → FirstGiven (register_checks a.facts p) k → ServedBy (Registers p) b b p k 0
  register_refused g = stays _ _ a (inl (g, kept _ _ _))

  -- the length is right
  module _ (l : length p ≡ register_length) where
    pub register_bad : (AttributesAllowed (word p 0) → ⊥) ⊎ (AttributesAllowed (word p 0) × (EventsAllowed (word p 2) → ⊥))
        → ServedBy (Registers p) b b p BadAttribute 0
    register_bad (inl h) = register_refused (inr ((λ d. d l), inl (h, refl)))
    register_bad (inr h) = register_refused (inr ((λ d. d l), inr ((λ d. d h.0), inl (h.1, refl))))

    pub register_full : {attributes events : ℕ} → Asks p attributes events → (most_clients ≤ clients_in b) ⊎ (most_issued ≤ issued_in b)
        → ServedBy (Registers p) b b p OutOfResource 0
    register_full q h =
        let full : (most_clients ≤ length a.facts.clients) ⊎ (most_issued ≤ a.facts.issued) =
        ⊎_elim (λ m. inl (omega (arith, Of.clients_in_lem b a))) (λ m. inr (omega (arith, Of.issued_in_lem b a))) h in
        register_refused (inr ((λ d. d l), inr ((λ d. d q.attributes_allowed), inr ((λ d. d q.events_allowed), inl (full, refl)))))

    pub register_done : {attributes events n h : ℕ} → Asks p attributes events → NextIs b n h
        → ServedBy (Registers p) b (entered b n h attributes events) p Success h
    register_done q r =
        let room : length a.facts.clients < most_clients = omega (arith, r.room, r.place, Of.clients_in_lem b a) in
        let unissued : a.facts.issued < most_issued = omega (arith, r.left, Of.issued_in_lem b a) in
        rw (r.place, Of.clients_in_lem b a, r.handle, Of.issued_in_lem b a, q.attributes_are, q.events_are)
        (becomes _ _ _ a _
        (inr (
          ((λ d. d l), ((λ d. d q.attributes_allowed), ((λ d. d q.events_allowed), (⊎_elim (omega arith) (omega arith), tt)))),
          (refl, left _ _ _),
        ))
        (entered_image a.facts b (word p 0) (word p 2) (Of.shows_in b a) room unissued (omega (arith, q.events_allowed))))

-- a grant of the client's is some grant
one_held : {G : Type 0} (client : G → ℕ) (h : ℕ) (o : Option G) → HeldBy client h o → (g : G) × (o ≡ some g) × (client g ≡ h)
one_held client h none x = absurd x
one_held client h (some g) x = (g, refl, x)

-- what a client holds, said of the bytes and of the facts
module _ {b : List ℕ} (a : Accepted b) {i h : ℕ} (f : ListedAt b h i) where
  pub found_live : Live a.facts h
  found_live = Of.live_listed b a i h f.listed f.handle

  in_seats : {s : ℕ} → s < a.facts.sockets → s < most_seats
  in_seats l = omega (arith, a.formed.sockets_most)

  -- no earlier client has this handle
  none_before : (k : ℕ) → k < i → handle_in b k ≡ h → ⊥
  none_before k l e =
      let x = Of.client_of b a i f.listed in
      let y = Of.client_of b a k (omega (arith, f.listed)) in
      omega (
        arith,
        Of.same_client b a i k x.0 y.0 x.1 y.1
            (sym (Of.handle_of_lem b a i x.0 x.1 f.listed) ∙ f.handle ∙ sym e ∙ Of.handle_of_lem b a k y.0 y.1 (omega (arith, f.listed))),
      )

  mask_holds : MaskHeldIn b i → HoldsMask a.facts h
  mask_holds x = let m = mask_said b a i h f.listed f.handle x.0 x.1 x.2 in (x.0, m.0, m.1)

  holds_mask : HoldsMask a.facts h → MaskHeldIn b i
  holds_mask x = (
    x.0,
    mask_socket b a i h f.listed f.handle x.0 x.1 x.2,
    said_mask b a i h f.listed f.handle x.0 x.1 x.2,
  )

  pub holds_all : HoldsSome b i h → HoldsIo a.facts h ⊎ HoldsIrq a.facts h ⊎ HoldsMask a.facts h
  holds_all (inl (s, l, inl x)) =
      let g = one_held (λ (g : IoGrant). g.client) h (a.facts.io s) (rw (Of.facts_in_lem b a) x) in
      inl (record { seat = s; range = g.0; held = g.1; holder = g.2 })
  holds_all (inl (s, l, inr x)) =
      let g = one_held (λ (g : IrqGrant). g.client) h (a.facts.irq s) (rw (Of.facts_in_lem b a) x) in
      inr (inl (record { seat = s; grant = g.0; live = g.1; holder = g.2 }))
  holds_all (inr x) = inr (inr (mask_holds x))

  held_all : HoldsIo a.facts h ⊎ HoldsIrq a.facts h ⊎ HoldsMask a.facts h → HoldsSome b i h
  held_all (inl x) =
      inl (x.seat, in_seats (a.formed.ios _ _ x.held).socket, inl (rw (← Of.facts_in_lem b a, x.held) x.holder))
  held_all (inr (inl x)) =
      inl (x.seat, in_seats (a.formed.irqs _ _ x.live).socket, inr (rw (← Of.facts_in_lem b a, x.live) x.holder))
  held_all (inr (inr x)) = inr (holds_mask x)

module _ {b p : List ℕ} (a : Accepted b) {h : ℕ} where
  pub deregister_refused : {k : Code} → FirstGiven (deregister_checks a.facts h p) k → ServedBy (Deregisters h p) b b p k 0
  deregister_refused g = stays _ _ a (inl (g, kept _ _ _))

  pub deregister_done : {i : ℕ} {b' : List ℕ} → length p ≡ deregister_length → ListedAt b h i → (HoldsSome b i h → ⊥) → Withdrawn b b' i
      → ServedBy (Deregisters h p) b b' p Success h
  deregister_done {i} {b'} l f n w =
      becomes _ _ _ a _ (inr (((λ d. d l), ((λ d. d (found_live a f)), ((λ x. n (held_all a f x)), tt))), (refl, left _ _ _)))
      (withdrawn_image b b' a i h f.listed f.handle (none_before a f) w)
