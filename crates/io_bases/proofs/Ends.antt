-- Each way to the base that is taken is the rule's. Assumes nothing.
use Rattle.facts.proofs.Words.{◌≡◌, refl, inl, inr, ◌≢◌, ℕ, ◌≤◌, ◌<◌, arith}
use Rattle.facts.specs.{BadBase, InUse, Facts, FirstGiven, Passed, IoAsked, NotAllManaged, InTheWay, NoCandidate, CandidateTaken}
use Rattle.facts.specs.{BaseTaken, base_checks}

module _ (F : Facts) (q : IoAsked) where
  -- a base that is named
  module _ (named : q.base ≢ 0) where
    pub unmanaged : NotAllManaged F q → FirstGiven (base_checks F q) BadBase
    unmanaged x = inl ((named, x), refl)

    module _ (managed : NotAllManaged F q → ⊥) where
      pub held : InTheWay F q → FirstGiven (base_checks F q) InUse
      held x = inr ((λ y. managed y.1), inl ((named, x), refl))

      pub free : (InTheWay F q → ⊥) → (x : ℕ) → x ≡ q.base → Passed (base_checks F q) × BaseTaken F q x
      free clear x e =
          (((λ y. managed y.1), ((λ y. clear y.1), ((λ y. named y.0), tt))), inl (named, e))

  -- base 0
  module _ (zero : q.base ≡ 0) where
    pub none : NoCandidate F q → FirstGiven (base_checks F q) InUse
    none x = inr ((λ y. y.0 zero), inr ((λ y. y.0 zero), inl ((zero, x), refl)))

    pub first : (x : ℕ) → CandidateTaken F q x → Passed (base_checks F q) × BaseTaken F q x
    first x taken =
        (((λ y. y.0 zero), ((λ y. y.0 zero), ((λ y. y.1 x taken.fits), tt))), inr (zero, taken))

    -- a candidate has a port, and passes no further than all
    pub low : (x : ℕ) → 1 ≤ q.count → CandidateTaken F q x → x < 65536
    low x l taken = omega (arith, taken.fits.within)
