-- Sharers are the standing grants, and standing grants meet only as both asked for it. Assumes nothing.
use Rattle.facts.proofs.Words.{◌≡◌, refl, ap, sym, ◌∙◌, subst, inl, inr, ⊎_elim, ◌↔◌, ◌≢◌, List, [], ◌∷◌, Bool, cond, Option, none, some}
use Rattle.facts.proofs.Words.{none-ne-some, some-injective, ℕ, zero, suc, ◌+◌, ◌<◌, ℕ_discrete, arith, eqb, eq-eqb, ne_eqb}
use Rattle.facts.proofs.Words.{WellFormed}
use Rattle.facts.specs.{Success, Facts, IoGrant, IrqGrant, ◌∈◌, sharer, sharers_below, sharers_checks, Sharers, packed}
use Rattle.facts.proofs.{none_succeeds, first_not_success}
use Rattle.promises.proofs.{laws}
use Rattle.history.specs.{Event, sharers, Ours, FromFresh, io, irq, Number, SharersCounted, OneGrant, PortsApart, LevelsApart}
use Rattle.history.specs.Stands.{Stands}
use Rattle.history.proofs.Answered.{stepped, sharers_parts}
use Rattle.history.proofs.Runs.{exact}

-- the number is the same of what is the same
number_as : {P Q : ℕ → Type 0} {n : ℕ} → ((x : ℕ) → P x ↔ Q x) → Number P n → Number Q n
number_as same c =
    record {
      those = c.those;
      each = λ x. ((λ m. (same x).0 ((c.each x).0 m)), (λ q. (c.each x).1 ((same x).1 q)));
      once = c.once;
      count = c.count;
    }

module _ (F : Facts) (l : ℕ) where
  -- the socket s has a grant on the level l
  abbrev Shares : ℕ → Type 0
  Shares s = (g : IrqGrant) × (F.irq s ≡ some g) × (g.level ≡ l)

  -- one socket more, that shares or doesn't
  one_more : (n m : ℕ) → Shares n → Number (λ (s : ℕ). (s < n) × Shares s) m → Number (λ (s : ℕ). (s < suc n) × Shares s) (m + 1)
  one_more n m shares c =
      record {
        those = n ∷ c.those;
        each = λ s. (
          ⊎_elim (λ e. subst (λ (x : ℕ). (x < suc n) × Shares x) (sym e) (omega arith, shares))
              (λ i. let y = (c.each s).0 i in (omega (arith, y.0), y.1)),
          (λ y. same_or_not s y (ℕ_discrete s n)),
        );
        once = ((λ i. let y = (c.each n).0 i in omega (arith, y.0)), c.once);
        count = omega (arith, c.count);
      }
    where
      same_or_not : (s : ℕ) → (s < suc n) × Shares s → Dec (s ≡ n) → s ∈ (n ∷ c.those)
      same_or_not s y (yes e) = inl e
      same_or_not s y (no d) = inr ((c.each s).1 (omega (arith, y.0, d), y.1))

  no_more : (n m : ℕ) → (Shares n → ⊥) → Number (λ (s : ℕ). (s < n) × Shares s) m → Number (λ (s : ℕ). (s < suc n) × Shares s) (m + 0)
  no_more n m alone c =
      record {
        those = c.those;
        each = λ s. ((λ i. let y = (c.each s).0 i in (omega (arith, y.0), y.1)), (λ y. same_or_not s y (ℕ_discrete s n)));
        once = c.once;
        count = omega (arith, c.count);
      }
    where
      same_or_not : (s : ℕ) → (s < suc n) × Shares s → Dec (s ≡ n) → s ∈ c.those
      same_or_not s y (yes e) = absurd (alone (subst Shares e y.1))
      same_or_not s y (no d) = (c.each s).1 (omega (arith, y.0, d), y.1)

  -- the next socket
  next_counted : (n m : ℕ) (o : Option IrqGrant) → F.irq n ≡ o → Number (λ (s : ℕ). (s < n) × Shares s) m
      → Number (λ (s : ℕ). (s < suc n) × Shares s) (m + sharer l o)
  next_counted n m none e rest = no_more n m (λ y. none-ne-some y.0 (sym e ∙ y.1)) rest
  next_counted n m (some g) e rest = same_or_not (ℕ_discrete g.level l)
    where
      same_or_not : Dec (g.level ≡ l) → Number (λ (s : ℕ). (s < suc n) × Shares s) (m + cond (eqb g.level l) 1 0)
      same_or_not (yes i) =
          subst (λ (t : Bool). Number (λ (s : ℕ). (s < suc n) × Shares s) (m + cond t 1 0)) (sym (eq-eqb g.level l i)) (one_more n m (g, e, i) rest)
      same_or_not (no d) =
          subst (λ (t : Bool). Number (λ (s : ℕ). (s < suc n) × Shares s) (m + cond t 1 0)) (sym (ne_eqb g.level l d))
          (no_more n m (λ y. d (ap (λ (x : IrqGrant). x.level) (some-injective g y.0 (sym e ∙ y.1)) ∙ y.2)) rest)

  below_counted : (n : ℕ) → Number (λ (s : ℕ). (s < n) × Shares s) (sharers_below F l n)
  below_counted zero = record { those = []; each = λ s. (absurd, (λ y. absurd (omega (arith, y.0)))); once = tt; count = refl }
  below_counted (suc n) = next_counted n (sharers_below F l n) (F.irq n) refl (below_counted n)

  shares_counted : (c : ℕ) → WellFormed F → Sharers F l (record { code = Success; count = c }) → Number Shares c
  shares_counted c w (inl r) = absurd (first_not_success (sharers_checks l) Success (none_succeeds (sharers_checks l) tt) r.0 refl)
  shares_counted c w (inr r) =
      number_as (λ s. ((λ y. y.1), (λ y. ((w.irqs s y.0 y.1).socket, y))))
      (subst (Number (λ (s : ℕ). (s < F.sockets) × Shares s)) (sym r.1.1) (below_counted F.sockets))

pub sharers_counted : SharersCounted Ours
sharers_counted n es b b' l c from x =
    let t = exact n es b from in
    let s = stepped t.accepted (sharers l Success c) tt x in (
      number_as
          (λ s. (
            (λ z. (z.0, (t.tells (irq s z.0)).0 z.1, z.2)),
            (λ z. (z.0, (t.tells (irq s z.0)).1 z.1, z.2)),
          )) (shares_counted t.accepted.facts l c t.accepted.formed s.rule.0),
      omega (arith, (laws.sharers l b).most (packed Success c) x.0, (sharers_parts l Success c x.0).1),
    )

-- what stands in a socket is what the table has there
module _ (n : ℕ) (es : List Event) (b : List ℕ) (from : FromFresh Ours n es b) where
  abbrev told_io : (s : ℕ) (g : IoGrant) → Stands es (io s g) → (exact n es b from).accepted.facts.io s ≡ some g
  told_io s g = ((exact n es b from).tells (io s g)).1

  abbrev told_irq : (s : ℕ) (g : IrqGrant) → Stands es (irq s g) → (exact n es b from).accepted.facts.irq s ≡ some g
  told_irq s g = ((exact n es b from).tells (irq s g)).1

pub one_grant : OneGrant Ours
one_grant =
    record {
      io_one = λ n es b s g g' from x x'. some-injective g g' (sym (told_io n es b from s g x) ∙ told_io n es b from s g' x');
      irq_one = λ n es b s g g' from x x'. some-injective g g' (sym (told_irq n es b from s g x) ∙ told_irq n es b from s g' x');
    }

-- so two grants that differ stand in different sockets
pub ports_apart : PortsApart Ours
ports_apart n es b s s' g g' from x x' differ =
    (exact n es b from).accepted.formed.io_company s s' g g' apart (told_io n es b from s g x) (told_io n es b from s' g' x')
  where
    apart : s ≢ s'
    apart e =
        differ (λ i. io (e i) (one_grant.io_one n es b s g g' from x (subst (λ (t : ℕ). Stands es (io t g')) (sym e) x') i))

pub levels_apart : LevelsApart Ours
levels_apart n es b s s' g g' from x x' differ =
    (exact n es b from).accepted.formed.irq_company s s' g g' apart (told_irq n es b from s g x) (told_irq n es b from s' g' x')
  where
    apart : s ≢ s'
    apart e =
        differ (λ i. irq (e i) (one_grant.irq_one n es b s g g' from x (subst (λ (t : ℕ). Stands es (irq t g')) (sym e) x') i))
