-- All that a caller may rely on holds: demand 3 and the laws over all entries, of this keeper. Assumes nothing.
use Rattle.facts.proofs.Words.{refl, subst, List, ℕ}
use Rattle.history.specs.Events
use Rattle.facts.specs.{Code, number_of}
use Rattle.history.specs.{Event, code_in, Ours, FromFresh, registrations}
use Rattle.history.specs.Stands.{Stands}
use Rattle.history.proofs.{demand_3, entry_laws, said_once}
use Rattle.caller.specs.Relied.{Relied}
use Rattle.caller.specs.{AfterRun}

after_run : (sockets : ℕ) (es : List Event) (b : List ℕ) → FromFresh Ours sockets es b → AfterRun sockets es b
after_run n es b from =
    let told = demand_3.exact n es b from in
    record {
      exact = told;
      alone = λ b'. said_once b b' n (registrations es) (Stands es) told;
      handles = λ earlier later e h are. demand_3.never_again n earlier later e h b (subst (λ (xs : List Event). FromFresh Ours n xs b) are from);
      counted = λ l c b'. demand_3.sharers_counted n es b b' l c from;
      one_io = λ s g g'. demand_3.one_grant.io_one n es b s g g' from;
      one_irq = λ s g g'. demand_3.one_grant.irq_one n es b s g g' from;
      ports = λ s s' g g'. demand_3.ports_apart n es b s s' g g' from;
      levels = λ s s' g g'. demand_3.levels_apart n es b s s' g g' from;
    }

pub relied : Relied
relied =
    record {
      of_call = λ e b b' x. record {
        one = λ e' b'' same. entry_laws.one_outcome e e' b b' b'' same x;
        code = (entry_laws.the_fifteen (number_of (code_in e))).1 (code_in e, refl);
        keeps = entry_laws.refusal_keeps e b b' x;
        unformed = entry_laws.unformed_refused e b b' x;
        stays = entry_laws.stays e b b' x;
        frame = λ a. demand_3.frame e b b' a x;
      };
      of_boot = λ r k i b b' x. record {
        success = λ s. entry_laws.boot_places.success r i b b' (subst (λ (j : Code). Ours (Events.boot r j i) b b') s x);
        within = entry_laws.boot_places.within r k i b b' x;
        most = entry_laws.boot_places.most r k i b b' x;
        leaves = entry_laws.boot_places.leaves r k i b b' x;
      };
      of_irq = λ h p k a q b b' t passed x. record {
        refused = entry_laws.refused_exactly.irq h p k a q b b' t passed x;
        bad_irq = entry_laws.refused_exactly.irq_code h p k a q b b' t passed x;
        fits = entry_laws.refused_exactly.irq_fits h p k a q b b' t passed x;
      };
      of_io_named = λ h p k a q b b' t passed x named. record {
        refused = entry_laws.refused_exactly.io_named h p k a q b b' t passed x named;
        bad_base = entry_laws.refused_exactly.io_base h p k a q b b' t passed x named;
        in_use = entry_laws.refused_exactly.io_in_use h p k a q b b' t passed x named;
        kept = entry_laws.refused_exactly.io_kept h p k a q b b' t passed x named;
      };
      of_io_chosen = λ h p k a q b b' t passed x zero. record {
        refused = entry_laws.refused_exactly.io_chosen h p k a q b b' t passed x zero;
        in_use = entry_laws.refused_exactly.io_chosen_code h p k a q b b' t passed x zero;
        fits = entry_laws.refused_exactly.io_fits h p k a q b b' t passed x zero;
      };
      of_card_out = demand_3.card_out_case;
      codes = entry_laws.exact_codes;
      after_run = after_run;
      since = demand_3.exact_since;
    }
