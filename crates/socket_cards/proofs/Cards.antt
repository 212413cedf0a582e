-- Each way in which card in and card out end is the rule's. Assumes nothing.
use Rattle.facts.proofs.Words.{◌≡◌, refl, inl, inr, List, Bool, true, false, ℕ, ◌+◌, ◌≤◌, ◌<◌, arith, set, bool_byte}
use Rattle.layout.proofs.Of
use Rattle.facts.specs.{Code, Success, BadSocket, Facts, CardTo, with_card, most_sockets}
use Rattle.layout.specs.{mark, sockets_in, Accepted, cards_at}
use Rattle.layout.specs.Served.{Served}
use Rattle.layout.proofs.{card_written, stays, becomes}

-- the byte of a truth value is its mark
pub mark_byte : (t : Bool) → bool_byte t ≡ mark t
mark_byte true = refl
mark_byte false = refl

abbrev Cards : Bool → ℕ → Code → Facts → Facts → Type 0
Cards present s code F G = CardTo present F s (record { code = code; facts = G })

module _ {b : List ℕ} (a : Accepted b) {s : ℕ} where
  -- a socket below the count is one of a table's sockets
  pub in_table : s < sockets_in b → s < most_sockets
  in_table l = omega (arith, Of.sockets_in_lem b a, a.formed.sockets_most)

  pub card_past : (present : Bool) → sockets_in b ≤ s → Served (Cards present s BadSocket) b b
  card_past present l = stays _ _ a (inl (inl (omega (arith, Of.sockets_in_lem b a), refl), refl))

  pub card_done : (present : Bool) → s < sockets_in b → Served (Cards present s Success) b (set b (cards_at + s) (mark present))
  card_done present l =
      becomes _ _ _ a (with_card a.facts s present) (inr (((λ d. omega (arith, Of.sockets_in_lem b a)), tt), (refl, refl)))
      (card_written b a s present (in_table l))
