-- How a call on an accepted table is served: refused, or done. Assumes nothing.
use Rattle.facts.proofs.Words.{◌≡◌, refl, inl, inr, List, ℕ}
use Rattle.facts.specs.{Code, Success, Facts, Check, FirstGiven, Passed, Outcome, Kept, Leaves, Ruled}
use Rattle.layout.specs.{image, Accepted, ServedBy}
use Rattle.layout.specs.Served.{Served}

-- what is kept and what is left is as said
pub kept : (F : Facts) (p : List ℕ) (k : Code) → Kept F p (record { code = k; handle = 0; packet = p; facts = F })
kept F p k = record { handle = refl; packet = refl; facts = refl }

pub left : (h : ℕ) (p : List ℕ) (F : Facts) → Leaves h p F (record { code = Success; handle = h; packet = p; facts = F })
left h p F = record { handle = refl; packet = refl; facts = refl }

-- what is permitted leaves the facts as they are, and every byte stays; or it leaves others, whose image the bytes are
pub stays : (R : Facts → Facts → Type 0) (b : List ℕ) (a : Accepted b) → R a.facts a.facts → Served R b b
stays R b a r = record { accepted = a; after = a.facts; rule = r; table = a.is }

pub becomes : (R : Facts → Facts → Type 0) (b b' : List ℕ) (a : Accepted b) (G : Facts) → R a.facts G → image G ≡ b' → Served R b b'
becomes R b b' a G r e = record { accepted = a; after = G; rule = r; table = e }

-- a service, by its checks and what is done where none applies: refused by the first that does, and done
module _ (checks : Facts → List Check) (done : Facts → Outcome → Type 0) (b p : List ℕ) (a : Accepted b) where
  pub refused_by : (k : Code) → FirstGiven (checks a.facts) k → ServedBy (λ (F : Facts). Ruled (checks F) (done F) F p) b b p k 0
  refused_by k g =
      stays (λ (F G : Facts). Ruled (checks F) (done F) F p (record { code = k; handle = 0; packet = p; facts = G })) b a
      (inl (g, kept a.facts p k))

  pub done_by : (b' p' : List ℕ) (h : ℕ) (G : Facts) → Passed (checks a.facts)
      → done a.facts (record { code = Success; handle = h; packet = p'; facts = G })
      → image G ≡ b'
      → ServedBy (λ (F : Facts). Ruled (checks F) (done F) F p) b b' p' Success h
  done_by b' p' h G passed d e =
      becomes (λ (F H : Facts). Ruled (checks F) (done F) F p (record { code = Success; handle = h; packet = p'; facts = H })) b b' a G
      (inr (passed, (refl, d))) e
