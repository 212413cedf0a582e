-- What a search found, said in another way. Assumes nothing.
use Rattle.facts.proofs.Words.{◌≡◌, false, true≢false, ℕ}
use Rattle.std.specs.Prelude.{Option, Some, None, is_some}
use Rattle.io_candidates.specs.{LowestIs}

-- what is lowest of some is lowest of the same said in another way
pub lowest_as : {P Q : ℕ → Type 0} → ((x : ℕ) → P x → Q x) → ((x : ℕ) → Q x → P x) → (r : Option ℕ) → LowestIs P r → LowestIs Q r
lowest_as f g (Some x) low = record { fits = f x low.fits; least = λ y q. low.least y (g y q) }
lowest_as f g None none = λ x q. none x (g x q)

-- where none was found, none fits
pub none_found : (P : ℕ → Type 0) (r : Option ℕ) → is_some r ≡ false → LowestIs P r → (x : ℕ) → P x → ⊥
none_found P (Some x) e low = absurd (true≢false e)
none_found P None e none = none
