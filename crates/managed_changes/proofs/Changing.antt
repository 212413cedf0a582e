-- A call that one rule permits is one that another does; a resource type that is refused, whatever checks come after. Assumes nothing.
use Rattle.facts.proofs.Words.{inl, inr, List, [], ℕ}
use Rattle.facts.specs.{Code, Facts, Check, FirstGiven}
use Rattle.facts.specs.Resources.{resource_checks}
use Rattle.layout.specs.Served.{Served}

pub served_as : {R S : Facts → Facts → Type 0} {b b' : List ℕ} → ((F G : Facts) → R F G → S F G) → Served R b b' → Served S b b'
served_as f s = record { accepted = s.accepted; after = s.after; rule = f s.accepted.facts s.after s.rule; table = s.table }

pub type_refused : (n : ℕ) (own : List Check) {k : Code} → FirstGiven (resource_checks n []) k → FirstGiven (resource_checks n own) k
type_refused n own (inl x) = inl x
type_refused n own (inr (a, inl x)) = inr (a, inl x)
type_refused n own (inr (a, inr x)) = absurd x.1
