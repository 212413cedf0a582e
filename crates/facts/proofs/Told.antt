-- What can be told: statements that hold or not, so that a check of the contrary that passes shows them. Assumes nothing.
use Rattle.facts.proofs.Words.{◌≡◌, refl, sym, subst, subst⁻¹, by_cases, dec_of_iff, ◌⊎◌, inl, inr, ⊎_elim, List, [], ◌∷◌, Bool, true, false}
use Rattle.facts.proofs.Words.{false≢true, ℕ, zero, suc, ◌+◌, ◌%◌, ◌^◌, ℕ_discrete, dec_le, dec_lt, arith}
use Rattle.facts.specs.{Facts, Client, Range, ◌∈◌, Within, Has, Managed, WhollyUnreserved, Live, AttributesAllowed}

pub told : {A : Type 0} → Dec A → ((A → ⊥) → ⊥) → A
told (yes x) h = x
told (no x) h = absurd (h x)

-- both of two, one of two
pub both_told : {A B : Type 0} → Dec A → Dec B → Dec (A × B)
both_told (yes a) (yes b) = yes (a, b)
both_told (yes a) (no b) = no (λ x. b x.1)
both_told (no a) b = no (λ x. a x.0)

pub either_told : {A B : Type 0} → Dec A → Dec B → Dec (A ⊎ B)
either_told (yes a) b = yes (inl a)
either_told (no a) (yes b) = yes (inr b)
either_told (no a) (no b) = no (⊎_elim a b)

pub true_told : (t : Bool) → Dec (t ≡ true)
true_told true = yes refl
true_told false = no false≢true

false_told : (t : Bool) → Dec (t ≡ false)
false_told true = no (λ e. false≢true (sym e))
false_told false = yes refl

-- one of those listed
pub listed_told : {A : Type 0} (P : A → Type 0) → ((x : A) → Dec (P x)) → (xs : List A) → Dec ((x : A) × (x ∈ xs) × P x)
listed_told P d [] = no (λ e. e.1)
listed_told P d (y ∷ xs) =
    dec_of_iff (
      ⊎_elim (λ p. (y, inl refl, p)) (λ r. (r.0, inr r.1, r.2)),
      λ e. ⊎_elim (λ q. inl (subst P q e.2)) (λ i. inr (e.0, i, e.2)) e.1,
    ) (either_told (d y) (listed_told P d xs))

-- all of a run of numbers
pub run_told : (P : ℕ → Type 0) → ((x : ℕ) → Dec (P x)) → (base n : ℕ) → Dec ((x : ℕ) → Within x base n → P x)
run_told P d base zero = yes (λ x w. absurd (omega (arith, w.from, w.below)))
run_told P d base (suc n) =
    dec_of_iff (
      (λ a x w. by_cases (ℕ_discrete x (base + n)) (λ e. subst⁻¹ P e a.1) (λ f. a.0 x (omega (arith, w, f)))),
      (λ h. ((λ x w. h x (omega (arith, w))), h (base + n) (omega arith))),
    ) (both_told (run_told P d base n) (d (base + n)))

-- a live client, managed ports, those of unreserved ranges, attributes
pub live_told : (F : Facts) (h : ℕ) → Dec (Live F h)
live_told F h =
    dec_of_iff ((λ r. record { client = r.0; listed = r.1; handle = r.2 }), (λ l. (l.client, l.listed, l.handle)))
    (listed_told (λ (c : Client). c.handle ≡ h) (λ c. ℕ_discrete c.handle h) F.clients)

has_told : (r : Range) (p : ℕ) → Dec (Has r p)
has_told r p =
    dec_of_iff ((λ w. record { from = w.0; below = w.1 }), (λ w. (w.from, w.below)))
    (both_told (dec_le r.base p) (dec_lt p (r.base + r.count)))

pub managed_told : (F : Facts) (p : ℕ) → Dec (Managed F p)
managed_told F p =
    dec_of_iff ((λ r. record { range = r.0; listed = r.1; has = r.2 }), (λ m. (m.range, m.listed, m.has)))
    (listed_told (λ (r : Range). Has r p) (λ r. has_told r p) F.ranges)

-- an unreserved range that has the port
abbrev pub Unreserved : Facts → ℕ → Type 0
Unreserved F p = (m : Managed F p) × (m.range.reserved ≡ false)

unreserved_told : (F : Facts) (p : ℕ) → Dec (Unreserved F p)
unreserved_told F p =
    dec_of_iff (
      (λ r. (record { range = r.0; listed = r.1; has = r.2.0 }, r.2.1)),
      (λ u. (u.0.range, u.0.listed, (u.0.has, u.1))),
    ) (listed_told (λ (r : Range). Has r p × (r.reserved ≡ false)) (λ r. both_told (has_told r p) (false_told r.reserved)) F.ranges)

pub wholly_unreserved_told : (F : Facts) (base count : ℕ) → Dec (WhollyUnreserved F base count)
wholly_unreserved_told F = run_told (Unreserved F) (unreserved_told F)

pub attributes_told : (a : ℕ) → Dec (AttributesAllowed a)
attributes_told a =
    dec_of_iff ((λ x. record { bits = x.0; type = x.1 }), (λ x. (x.bits, x.type)))
    (both_told (dec_lt a (2 ^ 5))
    (either_told (ℕ_discrete (a % 2 ^ 3) (2 ^ 0)) (either_told (ℕ_discrete (a % 2 ^ 3) (2 ^ 1)) (ℕ_discrete (a % 2 ^ 3) (2 ^ 2)))))
