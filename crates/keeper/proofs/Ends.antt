-- The ways in which an entry ends, each with its permitted answer. Assumes nothing.
use Rattle.facts.proofs.Words.{◌≡◌, refl, sym, inl, inr, ◌≢◌, List, Bool, ℕ, ◌+◌, ◌≤◌}
use Rattle.managed_boot.specs.Booting as boot
use Rattle.facts.specs.{UnsupportedService, GeneralFailure, number_of, Facts, Bytes, Service, register_client, deregister_client, adjust_resource_info}
use Rattle.facts.specs.{request_irq, release_irq, request_io, release_io, request_socket_mask, release_socket_mask, Serves, service_number, rule_of, Call}
use Rattle.facts.specs.{packed, records_of, end_of, placed, all_levels, most_ranges}
use Rattle.facts.proofs.{host_laws}
use Rattle.layout.specs.{Accepted, ServedBy, TableRefused}
use Rattle.facts.specs.{Code, code_in}
use Rattle.facts.specs.declared.Handle.{Handle}
use Rattle.std.specs.Prelude.{Result}
use Rattle.service_answers.specs.{handle_of}
use Rattle.layout.proofs.{kept, stays}
use Rattle.managed_boot.specs.declared.Stopped.{Stopped}
use Rattle.managed_boot.specs.{place_of, Boots}
use Rattle.promises.specs.{CallAnswers, CardAnswers, SharersAnswers, BootAnswers}

-- no well-formed set has these bytes
module _ (b : List ℕ) (none : Accepted b → ⊥) where
  stands : TableRefused b b GeneralFailure
  stands = record { unformed = none; code_is = refl; table = refl }

  pub call_unformed : (n h : ℕ) (p : List ℕ) → Bytes p → CallAnswers n h b b p p (packed GeneralFailure 0)
  call_unformed n h p bytes = record { code = GeneralFailure; answered = 0; packs = refl; bytes = bytes; permitted = inr (stands, refl, refl) }

  pub card_unformed : (present : Bool) (s : ℕ) → CardAnswers present s b b (number_of GeneralFailure)
  card_unformed present s = record { code = GeneralFailure; is = refl; permitted = inr stands }

  pub boot_unformed : (records : List ℕ) (r : ℕ) → r ≡ placed GeneralFailure 0 → BootAnswers records b b r
  boot_unformed records r e = record { code = GeneralFailure; place = 0; packs = e; permitted = inr (stands, refl) }

  pub sharers_unformed : (l r : ℕ) → r ≡ number_of GeneralFailure → SharersAnswers l b r
  sharers_unformed l r e = record { code = GeneralFailure; count = 0; packs = e; permitted = inr (stands, refl) }

-- n is no service's number
pub record NoService (n : ℕ) : Type 0 where
  pub no_deregister : n ≢ service_number deregister_client
  pub no_register : n ≢ service_number register_client
  pub no_io_release : n ≢ service_number release_io
  pub no_irq_release : n ≢ service_number release_irq
  pub no_io_request : n ≢ service_number request_io
  pub no_irq_request : n ≢ service_number request_irq
  pub no_mask_request : n ≢ service_number request_socket_mask
  pub no_mask_release : n ≢ service_number release_socket_mask
  pub no_adjust : n ≢ service_number adjust_resource_info

serves_none : (n : ℕ) → NoService n → Serves n → ⊥
serves_none n x s = each_service s.service s.number_is
  where
    each_service : (v : Service) → service_number v ≡ n → ⊥
    each_service register_client e = x.no_register (sym e)
    each_service deregister_client e = x.no_deregister (sym e)
    each_service adjust_resource_info e = x.no_adjust (sym e)
    each_service request_irq e = x.no_irq_request (sym e)
    each_service release_irq e = x.no_irq_release (sym e)
    each_service request_io e = x.no_io_request (sym e)
    each_service release_io e = x.no_io_release (sym e)
    each_service request_socket_mask e = x.no_mask_request (sym e)
    each_service release_socket_mask e = x.no_mask_release (sym e)

pub unsupported : (b p : List ℕ) (n h : ℕ) → Bytes p → Accepted b → NoService n → CallAnswers n h b b p p (packed UnsupportedService 0)
unsupported b p n h bytes a x =
    record {
      code = UnsupportedService;
      answered = 0;
      packs = refl;
      bytes = bytes;
      permitted =
          inl
          (stays (λ (F G : Facts). Call n F h p (record { code = UnsupportedService; handle = 0; packet = p; facts = G })) b a
          (inr (serves_none n x, refl, kept a.facts p UnsupportedService)));
    }

-- a service, by its number
pub by_service : (v : Service) (b b' p p' : List ℕ) (n h : ℕ) (a : Result Handle Code) → Bytes p → n ≡ service_number v
    → ServedBy (λ (F : Facts). rule_of v F h p) b b' p' (code_in a) (handle_of a)
    → CallAnswers n h b b' p p' (packed (code_in a) (handle_of a))
by_service v b b' p p' n h a bytes i s =
    record {
      code = code_in a;
      answered = handle_of a;
      packs = refl;
      bytes = bytes;
      permitted =
          inl
          (record {
            accepted = s.accepted;
            after = s.after;
            rule = inl (record { service = v; number_is = sym i }, s.rule);
            table = s.table;
          });
    }

-- a boot list
pub boots : (records b b' : List ℕ) (x : Result ℕ Stopped) (r : ℕ) → Boots records b b' x → r ≡ placed (boot.code_of x) (place_of x) → BootAnswers records b b' r
boots records b b' x r s e = record { code = boot.code_of x; place = place_of x; packs = e; permitted = inl s.0 }

-- its place is low
pub low_place : (records b b' : List ℕ) (x : Result ℕ Stopped) → Boots records b b' x → place_of x ≤ all_levels + most_ranges
low_place records b b' x s =
    host_laws.boot_most (end_of records) s.0.accepted.facts (records_of records) _ s.0.accepted.formed s.0.rule
