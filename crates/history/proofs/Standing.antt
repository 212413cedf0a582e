-- What stands, from the first event on and up to the last one. Assumes nothing.
use Rattle.facts.proofs.Words.{◌≡◌, refl, ap, sym, ◌∙◌, subst, ◌⊎◌, inl, inr, ⊎_elim, ◌↔◌, List, [], ◌∷◌, ◌++◌, nil≢cons, head-eq_of_cons-eq}
use Rattle.facts.proofs.Words.{tail-eq_of_cons-eq, append_assoc}
use Rattle.facts.proofs.{in_left, in_right, in_either}
use Rattle.history.specs.{Event, Fact, Makes, GivesBack, Lasts, StandsSince}
use Rattle.history.specs.Stands.{Stands}

module _ (f : Fact) where
  lasts_more : (e : Event) (es : List Event) → (GivesBack e f → ⊥) → Lasts es f → Lasts (e ∷ es) f
  lasts_more e es kept lasts x = ⊎_elim (λ i back. kept (subst (λ (y : Event). GivesBack y f) i back)) (lasts x)

  stands_here : (e : Event) (es : List Event) → Makes e f → Lasts es f → Stands (e ∷ es) f
  stands_here e es made lasts = record { earlier = []; maker = e; later = es; are = refl; made = made; lasts = lasts }

  stands_later : (e : Event) {es : List Event} → Stands es f → Stands (e ∷ es) f
  stands_later e s =
      record { earlier = e ∷ s.earlier; maker = s.maker; later = s.later; are = ap (λ (x : List Event). e ∷ x) s.are; made = s.made; lasts = s.lasts }

  pub stands_never : Stands [] f → ⊥
  stands_never s = along s.earlier s.are
    where
      along : (xs : List Event) → [] ≡ xs ++ (s.maker ∷ s.later) → ⊥
      along [] e = nil≢cons e
      along (x ∷ xs) e = nil≢cons e

  stands_first : (e : Event) (es : List Event) → Stands (e ∷ es) f → (Makes e f × Lasts es f) ⊎ Stands es f
  stands_first e es s = along s.earlier s.are
    where
      along : (xs : List Event) → (e ∷ es) ≡ xs ++ (s.maker ∷ s.later) → (Makes e f × Lasts es f) ⊎ Stands es f
      along [] i =
          inl (
            subst (λ (x : Event). Makes x f) (sym (head-eq_of_cons-eq i)) s.made,
            subst (λ (xs : List Event). Lasts xs f) (sym (tail-eq_of_cons-eq i)) s.lasts,
          )
      along (x ∷ xs) i =
          inr (record { earlier = xs; maker = s.maker; later = s.later; are = tail-eq_of_cons-eq i; made = s.made; lasts = s.lasts })

  -- the last event of a log made it, or it stood before that and wasn't given back by it
  pub stands_last : (es : List Event) (e : Event) → Stands (es ++ (e ∷ [])) f → Makes e f ⊎ (Stands es f × (GivesBack e f → ⊥))
  stands_last [] e s = ⊎_elim (λ m. inl m.0) (λ t. absurd (stands_never t)) (stands_first e [] s)
  stands_last (x ∷ es) e s =
      ⊎_elim
      (λ m. inr (
        stands_here x es m.0 (λ y i. m.1 y (in_left y es (e ∷ []) i)),
        m.1 e (in_right e es (e ∷ []) (inl refl)),
      ))
      (λ t. ⊎_elim inl (λ y. inr (stands_later x y.0, y.1)) (stands_last es e t))
      (stands_first x (es ++ (e ∷ [])) s)

  pub last_stands : (es : List Event) (e : Event) → Makes e f ⊎ (Stands es f × (GivesBack e f → ⊥)) → Stands (es ++ (e ∷ [])) f
  last_stands es e (inl m) = record { earlier = es; maker = e; later = []; are = refl; made = m; lasts = λ y i. absurd i }
  last_stands es e (inr (s, kept)) =
      record {
        earlier = s.earlier;
        maker = s.maker;
        later = s.later ++ (e ∷ []);
        are = ap (λ (x : List Event). x ++ (e ∷ [])) s.are ∙ append_assoc s.earlier (s.maker ∷ s.later) (e ∷ []);
        made = s.made;
        lasts = λ y i. ⊎_elim (s.lasts y) (⊎_elim (λ same back. kept (subst (λ (z : Event). GivesBack z f) same back)) absurd)
            (in_either y s.later (e ∷ []) i);
      }

-- the first event of a run, where P holds before it and Q after it
module _ (P Q : Fact → Type 0) (e : Event) (f : Fact) (turned : Q f ↔ (Makes e f ⊎ (P f × (GivesBack e f → ⊥)))) (es : List Event) where
  pub since_first : StandsSince Q es f → StandsSince P (e ∷ es) f
  since_first (inl s) = inl (stands_later f e s)
  since_first (inr (q, lasts)) = ⊎_elim (λ m. inl (stands_here f e es m lasts)) (λ p. inr (p.0, lasts_more f e es p.1 lasts)) (turned.0 q)

  pub first_since : StandsSince P (e ∷ es) f → StandsSince Q es f
  first_since (inl s) = ⊎_elim (λ m. inr (turned.1 (inl m.0), m.1)) inl (stands_first f e es s)
  first_since (inr (p, lasts)) = inr (turned.1 (inr (p, lasts e (inl refl))), λ x m. lasts x (inr m))
