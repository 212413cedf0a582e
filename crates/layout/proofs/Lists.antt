-- Laws of listed facts: members, places, order, and facts that stand below a bound. Assumes nothing.
use Rattle.facts.proofs.Words.{◌≡◌, refl, ap, ap₂, sym, ◌∙◌, subst, subst⁻¹, fun_ext, inl, inr, ⊎_elim, by_cases, ◌≢◌, List, [], ◌∷◌, ◌++◌, map, Bool}
use Rattle.facts.proofs.Words.{cond, Option, none, some, some-injective, none-ne-some, ℕ, zero, suc, ◌+◌, ◌≤◌, ◌<◌, zero-le}
use Rattle.facts.proofs.Words.{not-suc-le-zero, le_of_suc-le-suc, dec_lt, arith, length, get_elem?, length-append, lt-ltb, le-ltb}
use Rattle.facts.specs.{Client, Range, ◌∈◌, without, Rising, Apart, inserted}
use Rattle.facts.proofs.{in_left, in_right, in_either, by_number, rising_over, rising_more, inserted_cases}
use Rattle.facts.proofs.Sets.{apart_over}
use Rattle.layout.specs.{up_to, below}
use Rattle.layout.proofs.Parts.{below_or_last}

module _ {A : Type 0} where
  -- a fact below the bound, and past it
  pub below_in : (n : ℕ) (other : A) (f : ℕ → A) (i : ℕ) → i < n → below n other f i ≡ f i
  below_in n other f i l = ap (λ (t : Bool). cond t (f i) other) (lt-ltb i n l)

  pub below_past : (n : ℕ) (other : A) (f : ℕ → A) (i : ℕ) → n ≤ i → below n other f i ≡ other
  below_past n other f i l = ap (λ (t : Bool). cond t (f i) other) (le-ltb i n l)

  pub up_to-length : (n : ℕ) (f : ℕ → A) → length (up_to n f) ≡ n
  unfolding up_to
  up_to-length zero f = refl
  up_to-length (suc n) f = length-append (up_to n f) (f n ∷ []) ∙ omega (arith, up_to-length n f)

  -- what is read below a bound is f where it is so below the bound, and past it
  pub below_back : (n : ℕ) (other : A) (f g : ℕ → A) → ((i : ℕ) → i < n → f i ≡ g i) → ((i : ℕ) → n ≤ i → other ≡ g i) → below n other f ≡ g
  below_back n other f g here past =
      fun_ext (λ i. by_cases (dec_lt i n) (λ l. below_in n other f i l ∙ here i l) (λ l. below_past n other f i (omega arith) ∙ past i (omega arith)))

  -- the members of what f gives are what it gives
  pub up_to-in : (n : ℕ) (f : ℕ → A) (i : ℕ) → i < n → f i ∈ up_to n f
  unfolding up_to
  up_to-in zero f i l = absurd (not-suc-le-zero l)
  up_to-in (suc n) f i l =
      below_or_last (λ i. f i ∈ (up_to n f ++ (f n ∷ []))) (λ i h. in_left (f i) (up_to n f) (f n ∷ []) (up_to-in n f i h))
      (in_right (f n) (up_to n f) (f n ∷ []) (inl refl)) i l

  pub in-up_to : (x : A) (n : ℕ) (f : ℕ → A) → x ∈ up_to n f → (i : ℕ) × (i < n) × (x ≡ f i)
  unfolding up_to
  in-up_to x zero f m = absurd m
  in-up_to x (suc n) f m =
      ⊎_elim (λ h. let r = in-up_to x n f h in (r.0, omega (arith, r.1), r.2)) (⊎_elim (λ e. (n, omega arith, e)) absurd)
      (in_either x (up_to n f) (f n ∷ []) m)

  -- the ith of a list
  pub at_in : (l : List A) (i : ℕ) {x : A} → get_elem? l i ≡ some x → x ∈ l
  at_in [] i {x} e = absurd (none-ne-some x e)
  at_in (y ∷ l) zero {x} e = inl (sym (some-injective y x e))
  at_in (y ∷ l) (suc i) e = inr (at_in l i e)

  pub at_below : (l : List A) (i : ℕ) → i < length l → (x : A) × (get_elem? l i ≡ some x)
  at_below [] i h = absurd (not-suc-le-zero h)
  at_below (y ∷ l) zero h = (y, refl)
  at_below (y ∷ l) (suc i) h = at_below l i (le_of_suc-le-suc h)

  pub at_past : (l : List A) (i : ℕ) → length l ≤ i → get_elem? l i ≡ none
  at_past [] i h = refl
  at_past (y ∷ l) zero h = absurd (not-suc-le-zero h)
  at_past (y ∷ l) (suc i) h = at_past l i (le_of_suc-le-suc h)

  pub in_at : (x : A) (l : List A) → x ∈ l → (i : ℕ) × (i < length l) × (get_elem? l i ≡ some x)
  in_at x [] m = absurd m
  in_at x (y ∷ l) (inl e) = (zero, omega arith, ap {B = Option A} some (sym e))
  in_at x (y ∷ l) (inr m) = let r = in_at x l m in (suc r.0, omega (arith, r.1), r.2)

-- the list t is s with x as its kth
pub record More {A : Type 0} (s t : List A) (k : ℕ) (x : A) : Type 0 where
  pub ahead : (i : ℕ) → i < k → get_elem? t i ≡ get_elem? s i
  pub here : get_elem? t k ≡ some x
  pub behind : (i : ℕ) → k ≤ i → get_elem? t (suc i) ≡ get_elem? s i
  pub longer : length t ≡ suc (length s)

module _ {A : Type 0} where
  -- as its first, and one place later behind one more
  more_first : (y x : A) (s : List A) → some y ≡ some x → More s (y ∷ s) zero x
  more_first y x s e = record { ahead = λ i l. absurd (not-suc-le-zero l); here = e; behind = λ i l. refl; longer = refl }

  more_later : (y : A) {s t : List A} {k : ℕ} {x : A} → More s t k x → More (y ∷ s) (y ∷ t) (suc k) x
  more_later y {s} {t} {k} m = record { ahead = front; here = m.here; behind = back; longer = ap suc m.longer }
    where
      front : (i : ℕ) → i < suc k → get_elem? (y ∷ t) i ≡ get_elem? (y ∷ s) i
      front zero l = refl
      front (suc i) l = m.ahead i (le_of_suc-le-suc l)

      back : (i : ℕ) → suc k ≤ i → get_elem? (y ∷ t) (suc i) ≡ get_elem? (y ∷ s) i
      back zero l = absurd (not-suc-le-zero l)
      back (suc i) l = m.behind i (le_of_suc-le-suc l)

  -- one more at the end
  pub appended : (s : List A) (x : A) → More s (s ++ (x ∷ [])) (length s) x
  appended [] x = more_first x x [] refl
  appended (y ∷ s) x = more_later y (appended s x)

  -- the first whose number is n is the kth: the list has it more than the one without it
  pub without_at : (number : A → ℕ) (n : ℕ) (s : List A) (k : ℕ) (x : A) → get_elem? s k ≡ some x → number x ≡ n
      → ((i : ℕ) (y : A) → i < k → get_elem? s i ≡ some y → number y ≢ n)
      → More (without number n s) s k x
  without_at number n [] k x e is first = absurd (none-ne-some x e)
  without_at number n (y ∷ s) zero x e is first =
      by_number number n (λ t. More t (y ∷ s) zero x) y s (λ _. more_first y x s e)
      (λ d. absurd (d (ap number (some-injective y x e) ∙ is)))
  without_at number n (y ∷ s) (suc k) x e is first =
      by_number number n (λ t. More t (y ∷ s) (suc k) x) y s (λ h. absurd (first zero y (omega arith) refl h))
      (λ _. more_later y (without_at number n s k x e is (λ i z l q. first (suc i) z (omega arith) q)))

  pub at-up_to : (n : ℕ) (f : ℕ → A) (i : ℕ) → i < n → get_elem? (up_to n f) i ≡ some (f i)
  unfolding up_to
  at-up_to zero f i l = absurd (not-suc-le-zero l)
  at-up_to (suc n) f i l =
      let more = appended (up_to n f) (f n) in
      below_or_last (λ i. get_elem? (up_to n f ++ (f n ∷ [])) i ≡ some (f i))
      (λ i h. more.ahead i (omega (arith, up_to-length n f)) ∙ at-up_to n f i h)
      (ap (get_elem? (up_to n f ++ (f n ∷ []))) (sym (up_to-length n f)) ∙ more.here) i l

  -- lists that agree at each place are one
  pub same_places : (s t : List A) → ((i : ℕ) → get_elem? s i ≡ get_elem? t i) → s ≡ t
  same_places [] [] h = refl
  same_places [] (y ∷ t) h = absurd (none-ne-some y (h zero))
  same_places (x ∷ s) [] h = absurd (none-ne-some x (sym (h zero)))
  same_places (x ∷ s) (y ∷ t) h = ap₂ (λ (a : A) (l : List A). a ∷ l) (some-injective x y (h zero)) (same_places s t (λ i. h (suc i)))

  -- a list is what f gives, where f gives what stands at each place
  pub listed : (l : List A) (f : ℕ → A) → ((i : ℕ) (x : A) → get_elem? l i ≡ some x → i < length l → f i ≡ x) → up_to (length l) f ≡ l
  listed l f h =
      same_places (up_to (length l) f) l
      (λ i. by_cases (dec_lt i (length l))
      (λ b. let x = at_below l i b in at-up_to (length l) f i b ∙ ap {B = Option A} some (h i x.0 x.1 b) ∙ sym x.1)
      (λ b. at_past (up_to (length l) f) i (omega (arith, up_to-length (length l) f)) ∙ sym (at_past l i (omega arith))))

-- a range stands after those whose base is not over its own
pub inserted_at : (r : Range) (s : List Range) (k : ℕ) → k ≤ length s → ((i : ℕ) (y : Range) → i < k → get_elem? s i ≡ some y → y.base ≤ r.base)
    → ((i : ℕ) (y : Range) → k ≤ i → get_elem? s i ≡ some y → r.base < y.base)
    → More s (inserted r s) k r
inserted_at r [] zero l low high = more_first r r [] refl
inserted_at r [] (suc k) l low high = absurd (not-suc-le-zero l)
inserted_at r (y ∷ s) zero l low high =
    inserted_cases (λ t. More (y ∷ s) t zero r) r y s (λ _. more_first r r (y ∷ s) refl)
    (λ b. absurd (omega (arith, b, high zero y (omega arith) refl)))
inserted_at r (y ∷ s) (suc k) l low high =
    inserted_cases (λ t. More (y ∷ s) t (suc k) r) r y s (λ b. absurd (omega (arith, b, low zero y (omega arith) refl)))
    (λ _. more_later y
    (inserted_at r s k (le_of_suc-le-suc l) (λ i z h q. low (suc i) z (omega arith) q) (λ i z h q. high (suc i) z (omega arith) q)))

-- one more at the end of what is in order
apart_more : (lo : ℕ) (rs : List Range) (r : Range) → Apart lo rs → lo ≤ r.base → 1 ≤ r.count
    → ((x : Range) → x ∈ rs → x.base + x.count ≤ r.base)
    → Apart lo (rs ++ (r ∷ []))
apart_more lo [] r a l p h = (l, p, tt)
apart_more lo (x ∷ rs) r a l p h = (a.0, a.1, apart_more (x.base + x.count) rs r a.2 (h x (inl refl)) p (λ y m. h y (inr m)))

-- stretches, each of which begins at or past the end of the one before it, begin at or past the end of every earlier one
pub climb : (from to : ℕ → ℕ) (n i : ℕ) → ((k : ℕ) → from k ≤ to k) → ((k : ℕ) → k < n → to k ≤ from (suc k)) → i < n → to i ≤ from n
climb from to zero i up next l = absurd (not-suc-le-zero l)
climb from to (suc n) i up next l =
    below_or_last (λ i. to i ≤ from (suc n)) (λ i b. omega (arith, climb from to n i up (λ k m. next k (omega arith)) b, up n, next n (omega arith)))
    (next n (omega arith)) i l

-- clients whose handles rise from place to place are in order; so are ranges that lie apart from place to place
pub rising-up_to : (n : ℕ) (f : ℕ → Client) → (0 < n → 0 < (f 0).handle) → ((i : ℕ) → suc i < n → (f i).handle < (f (suc i)).handle) → Rising 0 (up_to n f)
unfolding up_to
rising-up_to zero f s h = tt
rising-up_to (suc n) f s h =
    rising_more 0 (up_to n f) (f n) (rising-up_to n f (λ l. s (omega arith)) (λ i l. h i (omega arith))) (over n refl)
    (λ x m. let r = in-up_to x n f m in subst⁻¹ (λ (y : Client). y.handle < (f n).handle) r.2 (above r.0 r.1))
  where
    above : (i : ℕ) → i < n → (f i).handle < (f n).handle
    above i = climb (λ k. (f k).handle) (λ k. suc (f k).handle) n i (λ k. omega arith) (λ k l. h k (omega arith))

    over : (k : ℕ) → n ≡ k → 0 < (f n).handle
    over zero e = subst⁻¹ (λ (k : ℕ). 0 < (f k).handle) e (s (omega arith))
    over (suc k) e = omega (arith, above 0 (omega (arith, e)))

pub apart-up_to : (n : ℕ) (f : ℕ → Range) → ((i : ℕ) → i < n → 1 ≤ (f i).count)
    → ((i : ℕ) → suc i < n → (f i).base + (f i).count ≤ (f (suc i)).base)
    → Apart 0 (up_to n f)
unfolding up_to
apart-up_to zero f p h = tt
apart-up_to (suc n) f p h =
    apart_more 0 (up_to n f) (f n) (apart-up_to n f (λ i l. p i (omega arith)) (λ i l. h i (omega arith))) zero-le (p n (omega arith))
    (λ x m. let r = in-up_to x n f m in subst⁻¹ (λ (y : Range). y.base + y.count ≤ (f n).base) r.2
    (climb (λ k. (f k).base) (λ k. (f k).base + (f k).count) n r.0 (λ k. omega arith) (λ k l. h k (omega arith)) r.1))

-- neighbours in what is in order
pub apart_next : (lo : ℕ) (rs : List Range) (i : ℕ) (x y : Range) → Apart lo rs → get_elem? rs i ≡ some x → get_elem? rs (suc i) ≡ some y
    → x.base + x.count ≤ y.base
apart_next lo [] i x y a e f = absurd (none-ne-some x e)
apart_next lo (c ∷ rs) zero x y a e f =
    subst (λ (u : Range). u.base + u.count ≤ y.base) (some-injective c x e) (apart_over (c.base + c.count) rs a.2 y (at_in rs zero f))
apart_next lo (c ∷ rs) (suc i) x y a e f = apart_next (c.base + c.count) rs i x y a.2 e f

-- the later of two clients listed has the greater handle
pub rising_before : (lo : ℕ) (cs : List Client) (i j : ℕ) (x y : Client) → Rising lo cs → i < j → get_elem? cs i ≡ some x → get_elem? cs j ≡ some y
    → x.handle < y.handle
rising_before lo [] i j x y r l e f = absurd (none-ne-some x e)
rising_before lo (c ∷ cs) i zero x y r l e f = absurd (not-suc-le-zero l)
rising_before lo (c ∷ cs) zero (suc j) x y r l e f =
    subst (λ (u : Client). u.handle < y.handle) (some-injective c x e) (rising_over c.handle cs r.1 y (at_in cs j f))
rising_before lo (c ∷ cs) (suc i) (suc j) x y r l e f = rising_before c.handle cs i j x y r.1 (le_of_suc-le-suc l) e f

-- the ith of a list, each of which f changes
pub at_map : {A : Type 0} (f : A → A) (s : List A) (i : ℕ) (x : A) → get_elem? s i ≡ some x → get_elem? (map f s) i ≡ some (f x)
at_map f [] i x e = absurd (none-ne-some x e)
at_map {A} f (y ∷ s) zero x e = ap {B = Option A} (λ (z : A). some (f z)) (some-injective y x e)
at_map f (y ∷ s) (suc i) x e = at_map f s i x e

-- what is found nowhere is none
pub absent {ℓ} : {A : Type ℓ} (o : Option A) → ((x : A) → o ≡ some x → ⊥) → none ≡ o
absent none h = refl
absent (some x) h = absurd (h x refl)

-- what stands below a bound and is not the other is there
pub found : {A : Type 0} (n : ℕ) (f : ℕ → Option A) (i : ℕ) (x : A) → below n none f i ≡ some x → (i < n) × (f i ≡ some x)
found n f i x e =
    by_cases (dec_lt i n) (λ l. (l, sym (below_in n none f i l) ∙ e))
    (λ l. absurd (none-ne-some x (sym (below_past n none f i (omega arith)) ∙ e)))
