-- That something is listed: a computed test; and what holds of each of those listed. Assumes nothing.
use Rattle.facts.proofs.Words.{◌≡◌, refl, sym, subst, inl, inr, List, [], ◌∷◌, Bool, true, false, cond, ℕ, T, eqb, eqb-true}
use Rattle.facts.specs.{◌∈◌}

-- things that are told apart by their numbers
module _ {A : Type 0} (number : A → ℕ) (one : (x y : A) → number x ≡ number y → x ≡ y) where
  abbrev pub lists : List A → A → Bool
  lists [] x = false
  lists (y ∷ ys) x = cond (eqb (number x) (number y)) true (lists ys x)

  pub listed : (ys : List A) (x : A) → T (lists ys x) → x ∈ ys
  listed [] x t = t
  listed (y ∷ ys) x t = marked_or_not (eqb (number x) (number y)) (eqb-true (number x) (number y)) (listed ys x) t
    where
      marked_or_not : (same : Bool) → (same ≡ true → number x ≡ number y) → (T (lists ys x) → x ∈ ys) → T (cond same true (lists ys x)) → x ∈ (y ∷ ys)
      marked_or_not true e later t = inl (one x y (e refl))
      marked_or_not false e later t = inr (later t)

-- each of those listed
module _ {A : Type 0} (P : A → Type 0) where
  abbrev pub Each : List A → Type 0
  Each [] = Unit {0}
  Each (x ∷ xs) = P x × Each xs

  pub each_in : (xs : List A) → Each xs → (x : A) → x ∈ xs → P x
  each_in [] e x m = elim m [ ]
  each_in (y ∷ xs) e x (inl q) = subst P (sym q) e.0
  each_in (y ∷ xs) e x (inr m) = each_in xs e.1 x m
