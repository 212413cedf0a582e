-- What holds of some number below a bound: `any` over a range. Assumes nothing.
use denote.Param.Members.{Mut}
use Rattle.std.specs.declared.ops.Range.{Range}
use Rattle.std.specs.Bool.{MatchBool}
use Rattle.std.specs.Fn.{Called}
use Rattle.std.specs.Iterator.{ChecksAny}
use Rattle.std.specs.List.{AllWithin, HoldsAt, range_with_len}
use Rattle.std.proofs.iter.Yields.{nat_range_steps}
use Rattle.std.proofs.lemmas.Iterator.{cases_from_any, YieldsList-from_range}
use Rattle.std.proofs.lemmas.List.FromFn.{length-range_with_len, get_or-range_with_len}
use Rattle.facts.proofs.Words.{◌≡◌, refl, sym, ◌∙◌, subst, Bool, true, false, ℕ, ◌<◌, arith, length, zero-add, Says}
use Rattle.facts.proofs.{says_true, says_false}

abbrev pub Some : ℕ → (ℕ → Type 0) → Type 0
Some n P = (i : ℕ) × (i < n) × P i

-- `any` over the numbers below n
range_has : {P : ℕ → Type 0} (r : Bool) (n : ℕ)
    → MatchBool r ((k : ℕ) × (k < length (range_with_len 0 n)) × HoldsAt P (range_with_len 0 n) k)
    (AllWithin (λ i. P i → ⊥) (range_with_len 0 n) 0 (length (range_with_len 0 n)))
    → Says r (Some n P)
range_has {P} true n u =
    let l : u.0 < n = omega (arith, u.1, length-range_with_len 0 n) in
    says_true (u.0, l, subst P (get_or-range_with_len 0 n u.0 0 l ∙ zero-add u.0) (u.2 0))
range_has {P} false n a =
    says_false (λ x. a x.0 0 (omega arith) (omega (arith, x.1, length-range_with_len 0 n))
    (subst P (sym (get_or-range_with_len 0 n x.0 0 x.1 ∙ zero-add x.0)) x.2))

module _ {P : ℕ → Type 0} (n : ℕ) where
  pub any_says : {F : Type 0} {g : Mut F (ℕ × Unit {0}) Bool} {f : F} {u : Range ℕ} {r : Bool}
      → ChecksAny nat_range_steps g (record { start = 0; end = n }) f r u
      → ((x : ℕ) (q : F) → Called g f (x, tt) true q → P x)
      → ((x : ℕ) (q : F) → Called g f (x, tt) false q → (q ≡ f) × (P x → ⊥))
      → Says r (Some n P)
  any_says {F} {g} {f} {u} {r} ran yes' no' = range_has r n (cases_from_any u f r P (λ i. P i → ⊥) ran (YieldsList-from_range 0 n n refl (omega arith)) yes' no')
