-- Each way in which RequestSocketMask and ReleaseSocketMask end is the rule's. Assumes nothing.
use Rattle.facts.proofs.Words.{◌≡◌, refl, ap, sym, inl, inr, List, [], ◌∷◌, Option, none, some, ℕ, ◌+◌, ◌<◌, arith, length}
use Rattle.layout.proofs.Of
use Rattle.facts.specs.{Code, Success, BadAttribute, BadSocket, InUse, Facts, word, with_word, EventsAllowed, ◌gives◌, Leaves, with_clients, MaskHeld}
use Rattle.facts.specs.{socket_of, with_mask, request_mask_length, release_mask_length, own_mask_checks, most_clients}
use Rattle.facts.specs.{RequestSocketMask, ReleaseSocketMask}
use Rattle.layout.specs.{image, two, mask_bytes, mask_place, Accepted, MaskUsed, ServedBy, table_size}
use Rattle.layout.proofs.{mask_said, said_mask, mask_written, left}
use Rattle.service_checks.specs.{BegunAt}
use Rattle.service_checks.specs.declared.CardNeed.{CardNeed}
use Rattle.service_checks.specs.declared.CardNeed.TheVariants.{Needed, Ignored}
use Rattle.service_checks.proofs.{seat_named, in_seats, in_clients, Service, refused_own, done_own}

-- the facts with the mask o of the client h for the socket that the packet names
abbrev masked : Facts → ℕ → List ℕ → Option ℕ → Facts
masked F h p o = with_clients F (with_mask h (socket_of p) o F.clients)

-- the two services
abbrev pub requesting : Service
requesting = record { need = Needed; bytes = request_mask_length; own = own_mask_checks; done = λ F h p. Leaves h p (masked F h p (some (word p 2))) }

abbrev pub releasing : Service
releasing =
    record {
      need = Ignored;
      bytes = release_mask_length;
      own = λ F h p. ((MaskHeld F h (socket_of p) → ⊥) gives BadSocket) ∷ [];
      done = λ F h p. Leaves h p (masked F h p none);
    }

-- the service has begun: the client's mask at the seat
module _ {b p : List ℕ} {n h i s : ℕ} {need : CardNeed} (a : Accepted b) (begun : BegunAt b p n h need i s) where
  -- what the mask's place asks of the table
  pub in_table : (length b ≡ table_size) × (i < most_clients)
  in_table = (Of.size_in b a, in_clients a begun)

  held : MaskUsed b i s → MaskHeld a.facts h (socket_of p)
  held u = rw (← seat_named a begun) (mask_said b a i h begun.client.listed begun.client.handle s (in_seats a begun) u)

  used : MaskHeld a.facts h (socket_of p) → MaskUsed b i s
  used x =
      said_mask b a i h begun.client.listed begun.client.handle s x.0 (rw (← seat_named a begun) at x.1)

  written : (o : Option ℕ) (w : ℕ) → mask_bytes o ≡ two w → w < 65536 → image (masked a.facts h p o) ≡ with_word b (mask_place i s) w
  written o w e l =
      rw (← seat_named a begun) (mask_written b a i h begun.client.listed begun.client.handle s o w (in_seats a begun) e l)

module _ {b p : List ℕ} {h i s : ℕ} (a : Accepted b) (begun : BegunAt b p request_mask_length h Needed i s) where
  abbrev Requested : List ℕ → Code → ℕ → Type 0
  Requested b' k handle = ServedBy (λ (F : Facts). RequestSocketMask F h p) b b' p k handle

  pub request_bad : (EventsAllowed (word p 2) → ⊥) → Requested b BadAttribute 0
  request_bad d = refused_own requesting a begun BadAttribute (inl (d, refl))

  pub request_held : EventsAllowed (word p 2) → MaskUsed b i s → Requested b InUse 0
  request_held l u = refused_own requesting a begun InUse (inr ((λ d. d l), inl (held a begun u, refl)))

  -- its word is one more than the mask
  pub request_done : (w : ℕ) → w ≡ word p 2 + 1 → EventsAllowed (word p 2) → (MaskUsed b i s → ⊥)
      → Requested (with_word b (mask_place i s) w) Success h
  request_done w e l free =
      let after = masked a.facts h p (some (word p 2)) in
      done_own requesting a begun (with_word b (mask_place i s) w) p after ((λ d. d l), ((λ x. free (used a begun x)), tt)) (left h p after)
      (written a begun (some (word p 2)) w (ap two (sym e)) (omega (arith, e, l)))

module _ {b p : List ℕ} {h i s : ℕ} (a : Accepted b) (begun : BegunAt b p release_mask_length h Ignored i s) where
  abbrev Released : List ℕ → Code → ℕ → Type 0
  Released b' k handle = ServedBy (λ (F : Facts). ReleaseSocketMask F h p) b b' p k handle

  pub release_nothing : (MaskUsed b i s → ⊥) → Released b BadSocket 0
  release_nothing free = refused_own releasing a begun BadSocket (inl ((λ x. free (used a begun x)), refl))

  pub release_done : MaskUsed b i s → Released (with_word b (mask_place i s) 0) Success h
  release_done u =
      let after = masked a.facts h p none in
      done_own releasing a begun (with_word b (mask_place i s) 0) p after ((λ d. d (held a begun u)), tt) (left h p after) (written a begun none 0 refl (omega arith))
