-- Every fact that a call's rule doesn't name reads as before. Assumes nothing.
use Rattle.facts.proofs.Words.{◌≡◌, refl, ap, sym, subst, ◌⊎◌, inl, inr, ⊎_elim, ◌≢◌, List, Bool, cond, ℕ, ℕ_discrete, arith, eqb, ne_eqb}
use Rattle.facts.specs.{Code, Success, number_of, Facts, action_of, add, remove, first, next, Service, register_client, adjust_resource_info}
use Rattle.facts.specs.{service_number}
use Rattle.facts.proofs.{code_injective, number_injective}
use Rattle.history.specs.{Event, make_fresh, call, card_in, card_out, boot, sharers, GoesOn, Ours, Fact, Made, GivenBack, Makes, GivesBack}
use Rattle.history.specs.{registration, client_made, mask_made, level_made, range_made, io_made, irq_made, client_back, mask_back, level_back}
use Rattle.history.specs.{range_back, io_back, irq_back, Name, the_issued, name_of, NamedBy, Framed, register_client_named, register_issued}
use Rattle.history.specs.{deregister, request_mask, release_mask, adjust_level, adjust_range, request_io_named, release_io_named, request_irq_named, release_irq_named}
use Rattle.history.specs.{Frame, CardOutKeeps}
use Rattle.history.specs.Names.{Names}
use Rattle.history.proofs.Steps.{EventTurns, refused_issues}
use Rattle.history.proofs.Runs.{passes}
use Rattle.history.proofs.Laws.{stays}

-- what is made is named, and what is given back
made_named : {h : ℕ} {p : List ℕ} {a : ℕ} {q : List ℕ} (v : Service) (f : Fact) → Made h p a q v f → NamedBy h p a v (name_of f)
made_named v f client_made = register_client_named
made_named v f mask_made = request_mask
made_named v f (level_made e i) = adjust_level e (inl i)
made_named v f (range_made w n e i) = adjust_range w n e (inl i)
made_named v f io_made = request_io_named
made_named v f irq_made = request_irq_named

back_named : {h : ℕ} {p : List ℕ} {a : ℕ} (v : Service) (f : Fact) → GivenBack h p v f → NamedBy h p a v (name_of f)
back_named v f client_back = deregister
back_named v f mask_back = release_mask
back_named v f (level_back e i) = adjust_level e (inr i)
back_named v f (range_back w n e i) = adjust_range w n e (inr i)
back_named v f (io_back client base count) = release_io_named
back_named v f (irq_back client level type) = release_irq_named

makes_names : (e : Event) (f : Fact) → Makes e f → Names e (name_of f)
makes_names (make_fresh n k) f m = absurd m
makes_names (call n h p k a q) f (s, v, i, m) = (s, v, i, made_named v f m)
makes_names (card_in s k) f (e, i) = (e, ap name_of i)
makes_names (card_out s k) f m = absurd m
makes_names (boot b k i) f (r, m, x) = (r, m, f, x, refl)
makes_names (sharers l k c) f m = absurd m

back_names : (e : Event) (f : Fact) → GivesBack e f → Names e (name_of f)
back_names (make_fresh n k) f m = absurd m
back_names (call n h p k a q) f (s, v, i, m) = (s, v, i, back_named v f m)
back_names (card_in s k) f m = absurd m
back_names (card_out s k) f (e, i) = (e, ap name_of i)
back_names (boot b k i) f m = absurd m
back_names (sharers l k c) f m = absurd m

-- a refusal names none, and First and Next don't; a question has none to name
pub refusal_names_none : (n h : ℕ) (p : List ℕ) (k : Code) (a : ℕ) (q : List ℕ) → k ≢ Success → (x : Name) → Names (call n h p k a q) x → ⊥
refusal_names_none n h p k a q d x m = d m.0

adjusting_names : {h : ℕ} {p : List ℕ} {a : ℕ} (x : Name) → NamedBy h p a adjust_resource_info x → (action_of p ≡ add) ⊎ (action_of p ≡ remove)
adjusting_names x (adjust_level e act) = act
adjusting_names x (adjust_range w n e act) = act

pub showing_names_none : (h : ℕ) (p : List ℕ) (k : Code) (a : ℕ) (q : List ℕ) → (action_of p ≡ first) ⊎ (action_of p ≡ next) → (x : Name)
    → Names (call (service_number adjust_resource_info) h p k a q) x → ⊥
showing_names_none h p k a q shows x m = either_way shows (adjusting_names x named)
  where
    named : NamedBy h p a adjust_resource_info x
    named = subst (λ (v : Service). NamedBy h p a v x) (number_injective m.1 adjust_resource_info m.2) m.3

    either_way : (action_of p ≡ first) ⊎ (action_of p ≡ next) → (action_of p ≡ add) ⊎ (action_of p ≡ remove) → ⊥
    either_way (inl e) (inl i) = omega (arith, e, i)
    either_way (inl e) (inr i) = omega (arith, e, i)
    either_way (inr e) (inl i) = omega (arith, e, i)
    either_way (inr e) (inr i) = omega (arith, e, i)

-- an event that doesn't name the number issued registers nobody
unregistered : (e : Event) → (Names e the_issued → ⊥) → registration e ≡ 0
unregistered (make_fresh n k) none = refl
unregistered (call n h p k a q) none = each_way (ℕ_discrete n (service_number register_client)) (ℕ_discrete (number_of k) (number_of Success))
  where
    each_way : Dec (n ≡ service_number register_client) → Dec (number_of k ≡ number_of Success) → registration (call n h p k a q) ≡ 0
    each_way (yes e) (yes i) = absurd (none (code_injective k Success i, register_client, sym e, register_issued))
    each_way (no d) y =
        ap (λ (t : Bool). cond t (cond (eqb (number_of k) (number_of Success)) 1 0) 0) (ne_eqb n (service_number register_client) d)
    each_way (yes e) (no d) = refused_issues n h p k a q (λ i. d (ap number_of i))
unregistered (card_in s k) none = refl
unregistered (card_out s k) none = refl
unregistered (boot b k i) none = refl
unregistered (sharers l k c) none = refl

framed : (e : Event) (F G : Facts) → EventTurns e F G → Framed e F G
framed e F G t x none =
    record {
      facts = λ f i. (
        (λ y. ⊎_elim (λ b. absurd (none (subst (Names e) i (back_names e f b)))) (λ z. z) ((t.each f).0 y)),
        (λ y. ⊎_elim (λ m. absurd (none (subst (Names e) i (makes_names e f m)))) (λ z. z) ((t.each f).1 y)),
      );
      issued = λ i. omega (arith, t.issued, unregistered e (λ m. none (subst (Names e) (sym i) m)));
      sockets = λ i. sym t.sockets;
    }

-- a table's life goes on, or a fresh table names everything
on_or_fresh : (e : Event) → GoesOn e ⊎ ((x : Name) → Names e x)
on_or_fresh (make_fresh n k) = same_or_not (ℕ_discrete (number_of k) (number_of Success))
  where
    same_or_not : Dec (number_of k ≡ number_of Success) → GoesOn (make_fresh n k) ⊎ ((x : Name) → Names (make_fresh n k) x)
    same_or_not (yes e) = inr (λ x. code_injective k Success e)
    same_or_not (no d) = inl (λ e. d (ap number_of e))
on_or_fresh (call n h p k a q) = inl tt
on_or_fresh (card_in s k) = inl tt
on_or_fresh (card_out s k) = inl tt
on_or_fresh (boot r k i) = inl tt
on_or_fresh (sharers l k c) = inl tt

pub frame : Frame Ours
frame e b b' a x =
    ⊎_elim (λ on. let s = passes a e on x in record { before = a; after = s.left; holds = framed e a.facts s.left.facts s.turns })
    (λ all. record { before = a; after = stays e b b' x a; holds = λ y none. absurd (none (all y)) })
    (on_or_fresh e)

pub card_out_case : CardOutKeeps Ours
card_out_case s k b b' a x =
    let y = passes a (card_out s k) tt x in
    record {
      before = a;
      after = y.left;
      holds = λ f d. (
        (λ t. ⊎_elim (λ b. absurd (d b.1)) (λ z. z) ((y.turns.each f).0 t)),
        (λ t. ⊎_elim (λ m. absurd m) (λ z. z) ((y.turns.each f).1 t)),
      );
    }
