-- What `?` makes of a check's answer: its code is handed on; and what `ok_or` makes of an answer that may be missing. Assumes nothing.
use Rattle.facts.proofs.Words.{◌≡◌, ap, sym, ◌∙◌, subst, true≢false}
use Rattle.std.specs.Prelude.{Option, Some, None, Result, Ok, Err, IsErr, IsErrAnd, is_ok}
use Rattle.std.specs.Option.{ok_or}
use Rattle.facts.specs.{Code}

error_of : {T E : Type 0} (r : Result T E) {e : E} → IsErrAnd r (λ y. y ≡ e) → r ≡ Err e
error_of (Ok x) i = absurd i
error_of (Err y) i = ap Err i

-- what is so of a refusal with the code k is so of what is handed on, where the check's code is k
pub handed : {T : Type 0} (P : Result T Code → Type 0) (r : Result T Code) {e k : Code} → IsErr r × IsErrAnd r (λ y. y ≡ e) → e ≡ k → P (Err k) → P r
handed P r i c p = subst P (sym (error_of r i.1 ∙ ap Err c)) p

abbrev code_or : {T : Type 0} → Result T Code → Code → Code
code_or (Ok x) k = k
code_or (Err e) k = e

-- what was said of an answer that may be missing, where `ok_or` gave a value of it; and where it gave the code k
module _ {A : Type 0} (P : Option A → Type 0) (k : Code) where
  pub given : (o : Option A) {r : Result A Code} {x : A} → r ≡ ok_or o k → r ≡ Ok x → P o → P (Some x)
  given None v w p = absurd (true≢false (sym (ap is_ok w) ∙ ap is_ok v))
  given (Some y) v w p = subst P (ap value (sym v ∙ w)) p
    where
      value : Result A Code → Option A
      value (Ok z) = Some z
      value (Err e) = Some y

  pub missing : (o : Option A) {r : Result A Code} {e : Code} → r ≡ ok_or o k → r ≡ Err e → P o → (e ≡ k) × P None
  missing None v w p = (ap (λ r. code_or r k) (sym w ∙ v), p)
  missing (Some y) v w p = absurd (true≢false (sym (ap is_ok v) ∙ ap is_ok w))
