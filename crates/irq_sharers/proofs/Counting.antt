-- The number of sharers is the answer. Assumes nothing.
use Rattle.facts.proofs.Words.{◌≡◌, refl, inr, List, ℕ, ◌<◌, arith}
use Rattle.layout.proofs.Of
use Rattle.facts.specs.{Success, Sharers, sharers_below, all_levels}
use Rattle.layout.specs.{sockets_in, facts_in, Accepted}

module _ (b : List ℕ) (a : Accepted b) (l : ℕ) where
  pub sharers_done : (n : ℕ) → l < all_levels → n ≡ sharers_below (facts_in b) l (sockets_in b) → Sharers a.facts l (record { code = Success; count = n })
  unfolding facts_in
  sharers_done n h e = rw (Of.facts_in_lem b a) (inr (((λ d. omega arith), tt), (refl, e)))
