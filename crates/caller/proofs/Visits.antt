-- Six entries called one after the other, each as it promises, make a run. Assumes nothing.
use Rattle.facts.proofs.Words.{◌≡◌, refl, ap, sym, ◌∙◌, subst, ◌≢◌, List, [], ◌∷◌, ℕ}
use Rattle.facts.specs.{Code, Success, number_of}
use Rattle.facts.proofs.{code_injective}
use Rattle.history.specs.{make_fresh, Ours, FromFresh, FreshCame, CallCame, CardInCame, CardOutCame, BootCame, SharersCame}
use Rattle.caller.specs.declared.VisitAnswers.{VisitAnswers}
use Rattle.std.specs.Prelude.{Err}
use Rattle.caller.specs.{Plan, Told, log, Visited, EndingIs}
use Rattle.caller.proofs.Relied.{relied}

-- cs_fresh is refused: no byte changes
pub refused : (g : Plan) (b b' : List ℕ) (r : ℕ) → FreshCame g.sockets b b' r → r ≢ number_of Success → EndingIs g b b' g.packet (Err r)
refused g b b' r (k, came) d =
    let other : k ≢ Success = λ s. d (came.0 ∙ ap number_of s) in
    (k, came.0, other, (relied.of_call (make_fresh g.sockets k) b b' came.1).keeps other, refl)

-- the others are called
pub visited : (g : Plan) (old b₀ b₁ b₂ b₃ b₄ q : List ℕ) (m : ℕ) (r : VisitAnswers) → m ≡ number_of Success → FreshCame g.sockets old b₀ m
    → BootCame g.records b₀ b₁ r.booted → CardInCame g.socket b₁ b₂ r.inserted
    → CallCame g.service g.handle g.packet q b₂ b₃ r.called → SharersCame g.level b₃ r.shared
    → CardOutCame g.socket b₃ b₄ r.removed → Visited g q r b₄
visited g old b₀ b₁ b₂ b₃ b₄ q m r zero (k, made) (k₁, i, booted) (k₂, inserted) (k₃, a, called) (k₄, c, shared) (k₅, removed) =
    record {
      told = told;
      run = run;
      numbers = λ j. sym booted.0 j ∷ sym inserted.0 j ∷ sym called.0 j ∷ sym shared.0 j ∷ sym removed.0 j ∷ [];
      after = relied.after_run g.sockets (log g q told) b₄ run;
    }
  where
    told : Told
    told = record { booted = k₁; place = i; inserted = k₂; called = k₃; answered = a; shared = k₄; count = c; removed = k₅ }

    success : k ≡ Success
    success = code_injective k Success (sym made.0 ∙ zero)

    run : FromFresh Ours g.sockets (log g q told) b₄
    run =
        record {
          old = old;
          start = b₀;
          made = subst (λ (j : Code). Ours (make_fresh g.sockets j) old b₀) success made.1;
          runs = (tt, b₁, booted.1, (tt, b₂, inserted.1, (tt, b₃, called.1, (tt, b₃, shared.1, (tt, b₄, removed.1, refl)))));
        }
