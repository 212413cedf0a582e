-- Laws of listed facts and of a fact put in its place. Assumes nothing.
use Rattle.facts.proofs.Words.{◌≡◌, refl, ap, sym, ◌∙◌, subst, subst⁻¹, by_cases, ◌⊎◌, inl, inr, ⊎_elim, ◌≢◌, List, [], ◌∷◌, ◌++◌, map, Bool}
use Rattle.facts.proofs.Words.{true, false, cond, Option, some, ℕ, suc, ◌+◌, ◌≤◌, ◌<◌, ℕ_discrete, arith, length, eqb, eq-eqb, ne_eqb}
use Rattle.facts.proofs.Words.{eqb-true, eqb-false}
use Rattle.facts.specs.{Client, Range, ◌∈◌, put, without, Rising, Apart}

-- what holds in both cases of a test
pub cond_cases : {A : Type 0} (P : A → Type 0) (t : Bool) (x y : A) → (t ≡ true → P x) → (t ≡ false → P y) → P (cond t x y)
cond_cases P true x y f g = f refl
cond_cases P false x y f g = g refl

module _ {A : Type 0} where
  -- what is put in its place, and what stays
  pub put_same : (f : ℕ → A) (k : ℕ) (x : A) → put f k x k ≡ x
  put_same f k x = ap (λ (t : Bool). cond t x (f k)) (eq-eqb k k refl)

  pub put_other : (f : ℕ → A) (k : ℕ) (x : A) (j : ℕ) → j ≢ k → put f k x j ≡ f j
  put_other f k x j d = ap (λ (t : Bool). cond t x (f j)) (ne_eqb j k d)

  -- what holds of all that stood, and of what is put, holds of all that stands
  pub put_all : (P : ℕ → A → Type 0) (f : ℕ → A) (k : ℕ) (x : A) → P k x → ((j : ℕ) → j ≢ k → P j (f j)) → (j : ℕ) → P j (put f k x j)
  put_all P f k x there others j =
      by_cases (ℕ_discrete j k) (λ e. subst⁻¹ (λ (i : ℕ). P i (put f k x i)) e (subst⁻¹ (P k) (put_same f k x) there))
      (λ d. subst⁻¹ (P j) (put_other f k x j d) (others j d))

  -- so it was put there, or stood there
  pub put_is : (f : ℕ → A) (k : ℕ) (x : A) (j : ℕ) → ((j ≡ k) × (put f k x j ≡ x)) ⊎ ((j ≢ k) × (put f k x j ≡ f j))
  put_is f k x = put_all (λ (j : ℕ) (y : A). ((j ≡ k) × (y ≡ x)) ⊎ ((j ≢ k) × (y ≡ f j))) f k x (inl (refl, refl)) (λ j d. inr (d, refl))

-- two that stand at different places keep company, if those that stood did and what is put does with them
pub put_pairs : {A : Type 0} (C : A → A → Type 0) → ((a b : A) → C a b → C b a) → (f : ℕ → Option A) (k : ℕ) (x : Option A)
    → ((s t : ℕ) (g g' : A) → s ≢ t → f s ≡ some g → f t ≡ some g' → C g g')
    → ((t : ℕ) (g g' : A) → t ≢ k → x ≡ some g → f t ≡ some g' → C g g')
    → (s t : ℕ) (g g' : A) → s ≢ t → put f k x s ≡ some g → put f k x t ≡ some g' → C g g'
put_pairs {A} C turned f k x stood new s t g g' d p q =
    put_all (λ (i : ℕ) (o : Option A). i ≢ t → o ≡ some g → C g g') f k x with_new (λ i _. with_old i) s d p
  where
    with_new : k ≢ t → x ≡ some g → C g g'
    with_new d' e = new t g g' (λ h. d' (sym h)) e (sym (put_other f k x t (λ h. d' (sym h))) ∙ q)

    with_old : (i : ℕ) → i ≢ t → f i ≡ some g → C g g'
    with_old i d' e =
        put_all (λ (j : ℕ) (o : Option A). o ≡ some g' → i ≢ j → C g g') f k x (λ e' d''. turned g' g (new i g' g d'' e' e))
        (λ j _ e' d''. stood i j g g' d'' e e') t q d'

module _ {A : Type 0} where
  -- a member of lists joined
  pub in_left : (x : A) (s t : List A) → x ∈ s → x ∈ (s ++ t)
  in_left x [] t m = absurd m
  in_left x (y ∷ s) t (inl e) = inl e
  in_left x (y ∷ s) t (inr m) = inr (in_left x s t m)

  pub in_right : (x : A) (s t : List A) → x ∈ t → x ∈ (s ++ t)
  in_right x [] t m = m
  in_right x (y ∷ s) t m = inr (in_right x s t m)

  pub in_either : (x : A) (s t : List A) → x ∈ (s ++ t) → (x ∈ s) ⊎ (x ∈ t)
  in_either x [] t m = inr m
  in_either x (y ∷ s) t (inl e) = inl (inl e)
  in_either x (y ∷ s) t (inr m) = ⊎_elim (λ n. inl (inr n)) inr (in_either x s t m)

  -- a member of a list, each of which f changes
  pub in_map : (f : A → A) (x : A) (s : List A) → x ∈ s → f x ∈ map f s
  in_map f x [] m = absurd m
  in_map f x (y ∷ s) (inl e) = inl (ap f e)
  in_map f x (y ∷ s) (inr m) = inr (in_map f x s m)

  pub map_in : (f : A → A) (x : A) (s : List A) → x ∈ map f s → (y : A) × (y ∈ s) × (x ≡ f y)
  map_in f x [] m = absurd m
  map_in f x (y ∷ s) (inl e) = (y, inl refl, e)
  map_in f x (y ∷ s) (inr m) = let r = map_in f x s m in (r.0, inr r.1, r.2)

  pub length_map : (f : A → A) (s : List A) → length (map f s) ≡ length s
  length_map f [] = refl
  length_map f (y ∷ s) = ap suc (length_map f s)

  -- one found again by its number, among those listed
  abbrev pub found : (A → ℕ) → A → ℕ → List A → A
  found number other n [] = other
  found number other n (y ∷ s) = cond (eqb (number y) n) y (found number other n s)

  -- one left out, by its number
  module _ (number : A → ℕ) (n : ℕ) where
    -- its two cases
    pub by_number : (P : List A → Type 0) (y : A) (s : List A) → (number y ≡ n → P s) → (number y ≢ n → P (y ∷ without number n s))
        → P (without number n (y ∷ s))
    by_number P y s here there =
        cond_cases P (eqb (number y) n) s (y ∷ without number n s) (λ e. here (eqb-true (number y) n e)) (λ e. there (eqb-false (number y) n e))

    pub without_in : (x : A) (s : List A) → x ∈ without number n s → x ∈ s
    without_in x [] m = m
    without_in x (y ∷ s) m = by_number (λ l. x ∈ l → x ∈ (y ∷ s)) y s (λ e k. inr k) (λ d. ⊎_elim inl (λ k. inr (without_in x s k))) m

    pub in_without : (x : A) (s : List A) → x ∈ s → number x ≢ n → x ∈ without number n s
    in_without x [] m d = m
    in_without x (y ∷ s) m d =
        by_number (λ l. x ∈ l) y s (λ h. ⊎_elim (λ e. absurd (d (ap number e ∙ h))) (λ k. k) m) (λ _. ⊎_elim inl (λ k. inr (in_without x s k d)) m)

    pub without_fewer : (s : List A) → length (without number n s) ≤ length s
    without_fewer [] = omega arith
    without_fewer (y ∷ s) = by_number (λ l. length l ≤ suc (length s)) y s (λ e. omega arith) (λ d. omega (arith, without_fewer s))

-- handles in order
pub rising_over : (lo : ℕ) (cs : List Client) → Rising lo cs → (c : Client) → c ∈ cs → lo < c.handle
rising_over lo [] r c m = absurd m
rising_over lo (x ∷ cs) r c (inl e) = subst (λ (y : Client). lo < y.handle) (sym e) r.0
rising_over lo (x ∷ cs) r c (inr m) = omega (arith, r.0, rising_over x.handle cs r.1 c m)

pub rising_down : (lo hi : ℕ) (cs : List Client) → lo ≤ hi → Rising hi cs → Rising lo cs
rising_down lo hi [] l r = tt
rising_down lo hi (c ∷ cs) l r = (omega (arith, r.0), r.1)

-- one more at the end, one left out, and each changed but for its handle
pub rising_more : (lo : ℕ) (cs : List Client) (c : Client) → Rising lo cs → lo < c.handle → ((x : Client) → x ∈ cs → x.handle < c.handle)
    → Rising lo (cs ++ (c ∷ []))
rising_more lo [] c r l h = (l, tt)
rising_more lo (x ∷ cs) c r l h = (r.0, rising_more x.handle cs c r.1 (h x (inl refl)) (λ y m. h y (inr m)))

pub rising_without : (lo h : ℕ) (cs : List Client) → Rising lo cs → Rising lo (without (λ (c : Client). c.handle) h cs)
rising_without lo h [] r = tt
rising_without lo h (x ∷ cs) r =
    by_number (λ (c : Client). c.handle) h (Rising lo) x cs (λ e. rising_down lo x.handle cs (omega (arith, r.0)) r.1)
    (λ d. (r.0, rising_without x.handle h cs r.1))

-- one left out is no longer there
pub rising_left_out : (lo h : ℕ) (cs : List Client) → Rising lo cs → (c : Client) → c ∈ without (λ (c : Client). c.handle) h cs → c.handle ≢ h
rising_left_out lo h [] r c = absurd
rising_left_out lo h (x ∷ cs) r c =
    by_number (λ (c : Client). c.handle) h (λ l. c ∈ l → c.handle ≢ h) x cs (λ e m q. omega (arith, e, q, rising_over x.handle cs r.1 c m))
    (λ d. ⊎_elim (λ e q. d (sym (ap (λ (c : Client). c.handle) e) ∙ q)) (rising_left_out x.handle h cs r.1 c))

pub rising_map : (f : Client → Client) → ((c : Client) → (f c).handle ≡ c.handle) → (lo : ℕ) (cs : List Client) → Rising lo cs → Rising lo (map f cs)
rising_map f same lo [] r = tt
rising_map f same lo (x ∷ cs) r =
    (omega (arith, same x, r.0), subst (λ (k : ℕ). Rising k (map f cs)) (sym (same x)) (rising_map f same x.handle cs r.1))

-- ranges in order
pub apart_port : (lo : ℕ) (rs : List Range) → Apart lo rs → (r : Range) → r ∈ rs → 1 ≤ r.count
apart_port lo [] a r m = absurd m
apart_port lo (x ∷ rs) a r (inl e) = subst (λ (y : Range). 1 ≤ y.count) (sym e) a.1
apart_port lo (x ∷ rs) a r (inr m) = apart_port (x.base + x.count) rs a.2 r m

pub apart_down : (lo hi : ℕ) (rs : List Range) → lo ≤ hi → Apart hi rs → Apart lo rs
apart_down lo hi [] l a = tt
apart_down lo hi (x ∷ rs) l a = (omega (arith, a.0), a.1, a.2)

pub apart_without : (lo base : ℕ) (rs : List Range) → Apart lo rs → Apart lo (without (λ (r : Range). r.base) base rs)
apart_without lo base [] a = tt
apart_without lo base (x ∷ rs) a =
    by_number (λ (r : Range). r.base) base (Apart lo) x rs (λ e. apart_down lo (x.base + x.count) rs (omega (arith, a.0)) a.2)
    (λ d. (a.0, a.1, apart_without (x.base + x.count) base rs a.2))

pub apart_over : (lo : ℕ) (rs : List Range) → Apart lo rs → (r : Range) → r ∈ rs → lo ≤ r.base
apart_over lo [] a r m = absurd m
apart_over lo (x ∷ rs) a r (inl e) = subst (λ (y : Range). lo ≤ y.base) (sym e) a.0
apart_over lo (x ∷ rs) a r (inr m) = omega (arith, a.0, apart_over (x.base + x.count) rs a.2 r m)

pub apart_left_out : (lo base : ℕ) (rs : List Range) → Apart lo rs → (r : Range) → r ∈ without (λ (r : Range). r.base) base rs → r.base ≢ base
apart_left_out lo base [] a r = absurd
apart_left_out lo base (x ∷ rs) a r =
    by_number (λ (r : Range). r.base) base (λ l. r ∈ l → r.base ≢ base) x rs
    (λ e m q. omega (arith, e, q, a.1, apart_over (x.base + x.count) rs a.2 r m))
    (λ d. ⊎_elim (λ e q. d (sym (ap (λ (r : Range). r.base) e) ∙ q)) (apart_left_out (x.base + x.count) base rs a.2 r))
