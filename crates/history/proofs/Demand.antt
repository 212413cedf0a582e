-- Demand 3 and the laws over all entries hold of this keeper. Assumes nothing.
use Rattle.history.specs.{Ours, Demand3, EntryLaws}
use Rattle.history.proofs.Runs.{exact, exact_since}
use Rattle.history.proofs.Frame.{frame, card_out_case}
use Rattle.history.proofs.Handles.{never_again}
use Rattle.history.proofs.Sharing.{sharers_counted, one_grant, ports_apart, levels_apart}
use Rattle.history.proofs.Laws.{one_outcome, refusal_keeps, unformed_refused, stays, boot_places, the_fifteen}
use Rattle.history.proofs.Exactly.{refused_exactly}
use Rattle.history.proofs.Codes.{exact_codes}

pub demand_3 : Demand3 Ours
demand_3 =
    record {
      exact = exact;
      exact_since = exact_since;
      frame = frame;
      card_out_case = card_out_case;
      never_again = never_again;
      sharers_counted = sharers_counted;
      one_grant = one_grant;
      ports_apart = ports_apart;
      levels_apart = levels_apart;
    }

pub entry_laws : EntryLaws Ours
entry_laws =
    record {
      one_outcome = one_outcome;
      refusal_keeps = refusal_keeps;
      unformed_refused = unformed_refused;
      stays = stays;
      boot_places = boot_places;
      refused_exactly = refused_exactly;
      exact_codes = exact_codes;
      the_fifteen = the_fifteen;
    }
