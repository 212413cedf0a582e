-- After any run the table says exactly what stands. Assumes nothing.
use Rattle.facts.proofs.Words.{◌≡◌, refl, ap, sym, ◌∙◌, subst, inl, inr, ⊎_elim, List, [], ◌∷◌, ◌++◌, false≢true, none-ne-some, ℕ, add-zero}
use Rattle.facts.proofs.Words.{arith}
use Rattle.facts.specs.{Success, number_of, Facts, Level, fresh}
use Rattle.layout.specs.{Accepted}
use Rattle.promises.proofs.{laws}
use Rattle.history.specs.{Event, make_fresh, Keeper, Ours, GoesOn, Runs, FromFresh, Fact, Tells, Exact, ExactSince}
use Rattle.history.proofs.Answered.{stepped}
use Rattle.history.proofs.Standing.{stands_never, since_first, first_since}
use Rattle.history.proofs.Turns.{turned, by_kind}
use Rattle.history.proofs.Steps.{EventTurns, event_turns}

-- an event on an accepted table with which its life goes on leaves one, and turns the facts of the one into those of the other
pub record Passes (e : Event) (F : Facts) (b' : List ℕ) : Type 0 where
  pub left : Accepted b'
  pub turns : EventTurns e F left.facts

pub passes : {b b' : List ℕ} (a : Accepted b) (e : Event) → GoesOn e → Ours e b b' → Passes e a.facts b'
passes a e on x =
    let s = stepped a e on x in
    record { left = record { facts = s.after; formed = s.formed; is = s.is }; turns = event_turns e a.facts s.after a.formed s.rule }

pub exact_since : ExactSince Ours
exact_since b b' [] a same =
    record {
      accepted = record { facts = a.facts; formed = a.formed; is = a.is ∙ sym same };
      sockets_are = refl;
      issued_are = sym (add-zero a.facts.issued);
      tells = λ f. ((λ t. inr (t, λ e m. absurd m)), ⊎_elim (λ s. absurd (stands_never f s)) (λ t. t.0));
    }
exact_since b b' (e ∷ es) a (on, m, x, rest) =
    let s = passes a e on x in
    let t = exact_since m b' es s.left rest in
    record {
      accepted = t.accepted;
      sockets_are = t.sockets_are ∙ s.turns.sockets;
      issued_are = omega (arith, t.issued_are, s.turns.issued);
      tells = λ f. (
        (λ y. since_first (Tells a.facts) (Tells s.left.facts) e f (turned s.turns f) es ((t.tells f).0 y)),
        (λ y. (t.tells f).1 (first_since (Tells a.facts) (Tells s.left.facts) e f (turned s.turns f) es y)),
      );
    }

-- a table made fresh says nothing but its socket count
fresh_tells_none : (n : ℕ) (f : Fact) → Tells (fresh n) f → ⊥
fresh_tells_none n =
    by_kind (λ (f : Fact). Tells (fresh n) f → ⊥) (λ h a m t. t.1) (λ h s m t. t.1) (λ l r t. false≢true (ap (λ (v : Level). v.managed) t)) (λ r t. t)
    (λ s t. false≢true t) (λ s g t. none-ne-some g t) (λ s g t. none-ne-some g t)

-- what a run from a fresh table begins with
pub record Begins (n : ℕ) (b : List ℕ) : Type 0 where
  pub start : Accepted b
  pub sockets : start.facts.sockets ≡ n
  pub issued : start.facts.issued ≡ 0
  pub nothing : (f : Fact) → Tells start.facts f → ⊥

pub begins : (n : ℕ) (old b : List ℕ) → Ours (make_fresh n Success) old b → Begins n b
begins n old b x =
    let y = (laws.fresh n old).accepted b (number_of Success) x refl in
    record {
      start = y.0;
      sockets = ap (λ (F : Facts). F.sockets) y.1;
      issued = ap (λ (F : Facts). F.issued) y.1;
      nothing = λ f t. fresh_tells_none n f (subst (λ (F : Facts). Tells F f) y.1 t);
    }

-- so what holds from any table holds from a fresh one, of a keeper that makes fresh tables as this one
pub fresh_exact : (K : Keeper) → ((n : ℕ) (b b' : List ℕ) → K (make_fresh n Success) b b' → Ours (make_fresh n Success) b b') → ExactSince K → Exact K
fresh_exact K makes since n es b from =
    let s = begins n from.old from.start (makes n from.old from.start from.made) in
    let t = since from.start b es s.start from.runs in
    record {
      accepted = t.accepted;
      sockets_are = t.sockets_are ∙ s.sockets;
      issued_are = omega (arith, t.issued_are, s.issued);
      tells = λ f. ((λ y. ⊎_elim (λ x. x) (λ x. absurd (s.nothing f x.0)) ((t.tells f).0 y)), (λ y. (t.tells f).1 (inl y)));
    }

pub exact : Exact Ours
exact = fresh_exact Ours (λ n b b' x. x) exact_since

-- a run can be cut anywhere
pub run_cut : (K : Keeper) (b : List ℕ) (es more : List Event) (b' : List ℕ) → Runs K b (es ++ more) b'
    → (m : List ℕ) × Runs K b es m × Runs K m more b'
run_cut K b [] more b' r = (b, refl, r)
run_cut K b (e ∷ es) more b' (on, m, x, r) = let c = run_cut K m es more b' r in (c.0, (on, m, x, c.1), c.2)

-- a run up to any of its events is a run
pub cut_short : (K : Keeper) (n : ℕ) (es more : List Event) (b : List ℕ) → FromFresh K n (es ++ more) b
    → (m : List ℕ) × FromFresh K n es m × Runs K m more b
cut_short K n es more b from =
    let c = run_cut K from.start es more b from.runs in
    (c.0, record { old = from.old; start = from.start; made = from.made; runs = c.1 }, c.2)
