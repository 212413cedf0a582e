-- What a caller may rely on leaves nothing out: demand 3 and the laws over all entries come back from it, and so does all that a visit promises. Nothing
-- else is proved over these statements: a part that went would be missed here. Assumes nothing.
use Rattle.facts.proofs.Words.{◌≡◌, refl, sym, ◌∙◌, ◌≢◌, List, [], ◌∷◌, ◌++◌, map, ℕ}
use Rattle.facts.specs.{Success, number_of, ◌∈◌}
use Rattle.facts.proofs.{code_injective}
use Rattle.history.specs.{Event, code_in, number_in, Ours, FromFresh, Demand3, EntryLaws, fifteen}
use Rattle.history.proofs.{entry_laws}
use Rattle.caller.specs.declared.VisitAnswers.{VisitAnswers}
use Rattle.std.specs.Prelude.{Ok, Err}
use Rattle.caller.specs.Relied.{Relied}
use Rattle.caller.specs.{AfterRun, Plan, log, EndingIs}

module _ (r : Relied) where
  pub demand_back : Demand3 Ours
  demand_back =
      record {
        exact = λ n es b from. (r.after_run n es b from).exact;
        exact_since = r.since;
        frame = λ e b b' a x. (r.of_call e b b' x).frame a;
        card_out_case = r.of_card_out;
        never_again = λ n earlier later e h b from. (r.after_run n (earlier ++ (e ∷ later)) b from).handles earlier later e h refl;
        sharers_counted = λ n es b b' l c from. (r.after_run n es b from).counted l c b';
        one_grant = record {
          io_one = λ n es b s g g' from. (r.after_run n es b from).one_io s g g';
          irq_one = λ n es b s g g' from. (r.after_run n es b from).one_irq s g g';
        };
        ports_apart = λ n es b s s' g g' from. (r.after_run n es b from).ports s s' g g';
        levels_apart = λ n es b s s' g g' from. (r.after_run n es b from).levels s s' g g';
      }

  pub laws_back : EntryLaws Ours
  laws_back =
      record {
        one_outcome = λ e e' b b₁ b₂ same x y. (r.of_call e b b₁ x).one e' b₂ same y;
        refusal_keeps = λ e b b' x. (r.of_call e b b' x).keeps;
        unformed_refused = λ e b b' x. (r.of_call e b b' x).unformed;
        stays = λ e b b' x. (r.of_call e b b' x).stays;
        boot_places = record {
          success = λ rs i b b' x. (r.of_boot rs Success i b b' x).success refl;
          within = λ rs k i b b' x. (r.of_boot rs k i b b' x).within;
          most = λ rs k i b b' x. (r.of_boot rs k i b b' x).most;
          leaves = λ rs k i b b' x. (r.of_boot rs k i b b' x).leaves;
        };
        refused_exactly = record {
          irq = λ h p k a q b b' t passed x. (r.of_irq h p k a q b b' t passed x).refused;
          irq_code = λ h p k a q b b' t passed x. (r.of_irq h p k a q b b' t passed x).bad_irq;
          irq_fits = λ h p k a q b b' t passed x. (r.of_irq h p k a q b b' t passed x).fits;
          io_named = λ h p k a q b b' t passed x named. (r.of_io_named h p k a q b b' t passed x named).refused;
          io_base = λ h p k a q b b' t passed x named. (r.of_io_named h p k a q b b' t passed x named).bad_base;
          io_in_use = λ h p k a q b b' t passed x named. (r.of_io_named h p k a q b b' t passed x named).in_use;
          io_kept = λ h p k a q b b' t passed x named. (r.of_io_named h p k a q b b' t passed x named).kept;
          io_chosen = λ h p k a q b b' t passed x zero. (r.of_io_chosen h p k a q b b' t passed x zero).refused;
          io_chosen_code = λ h p k a q b b' t passed x zero. (r.of_io_chosen h p k a q b b' t passed x zero).in_use;
          io_fits = λ h p k a q b b' t passed x zero. (r.of_io_chosen h p k a q b b' t passed x zero).fits;
        };
        exact_codes = r.codes;
        the_fifteen = entry_laws.the_fifteen;
      }

  -- of the fifteen codes a caller has only that an answer is one of them
  pub code_back : (e : Event) (b b' : List ℕ) → Ours e b b' → number_of (code_in e) ∈ fifteen
  code_back e b b' x = (r.of_call e b b' x).code

  -- two runs with one log leave the same bytes
  pub one_table : (n : ℕ) (es : List Event) (b b' : List ℕ) → FromFresh Ours n es b → FromFresh Ours n es b' → b ≡ b'
  one_table n es b b' from from' = (r.after_run n es b from).alone b' (r.after_run n es b' from').exact

-- a visit that was done is a run, and the numbers answered are those of its events
pub logged : (g : Plan) (b b' q : List ℕ) (r : VisitAnswers) (x : EndingIs g b b' q (Ok r))
    → FromFresh Ours g.sockets (log g q x.told) b' × AfterRun g.sockets (log g q x.told) b'
    × (map number_in (log g q x.told) ≡ r.booted ∷ r.inserted ∷ r.called ∷ r.shared ∷ r.removed ∷ [])
logged g b b' q r x = (x.run, x.after, x.numbers)

-- one that was refused: the number isn't SUCCESS's, and neither table nor packet is changed
pub refused_back : (g : Plan) (b b' q : List ℕ) (r : ℕ) → EndingIs g b b' q (Err r) → (r ≢ number_of Success) × (b' ≡ b) × (q ≡ g.packet)
refused_back g b b' q r (k, is, other, table, packet) = ((λ e. other (code_injective k Success (sym is ∙ e))), table, packet)
