-- No service and no call of the host gives another code than those listed for it. Assumes nothing.
use Rattle.facts.proofs.Words.{◌≡◌, refl, sym, subst, inl, inr, ⊎_elim, List, [], ◌∷◌, Bool, true, false, cond, ℕ, ◌%◌, length, T, eqb}
use Rattle.facts.specs.{Code, Success, GeneralFailure, BadArgLength, Record, Width, number_of, Facts, ◌∈◌, Check, Outcome, FirstGiven, DecidedThen}
use Rattle.facts.specs.{Decided, register_checks, deregister_checks, card_checks, request_mask_checks, release_mask_checks, AdjustIrq, AdjustIo, ByResource}
use Rattle.facts.specs.{io_range, action_of, level_given, level_attributes, base_given, count_given, attributes_given, lines_given, adjust_checks}
use Rattle.facts.specs.{add_level_checks, remove_level_checks, show_level_checks, add_range_checks, remove_range_checks, show_range_checks, irq_request_checks}
use Rattle.facts.specs.{irq_release_checks, sharers_checks, io_request_checks, io_release_checks, Booted, ended, refused, added, record_size, records_of}
use Rattle.facts.specs.{end_of, record_checks, Service, register_client, deregister_client, adjust_resource_info, request_irq, release_irq, request_io}
use Rattle.facts.specs.{release_io, request_socket_mask, release_socket_mask, rule_of, service_number, Call, most_lines}
use Rattle.facts.specs.Boot.{Boot}
use Rattle.facts.proofs.{code_injective, number_injective}
use Rattle.history.specs.{Ours, Asked, service, no_service, card_in_case, card_out_case, boot_list, sharers_of, fresh_table, codes_of, CanGive}
use Rattle.history.proofs.Listed.{lists, listed}
use Rattle.history.proofs.Answered.{called, carded, booted, counted}

-- a code is listed, and so are SUCCESS and the codes of the checks: computed tests
abbrev lists_code : List Code → Code → Bool
lists_code = lists number_of code_injective

code_listed : (ks : List Code) (k : Code) → T (lists_code ks k) → k ∈ ks
code_listed = listed number_of code_injective

abbrev list_all : List Code → List Check → Bool
list_all ks [] = lists_code ks Success
list_all ks (c ∷ cs) = cond (lists_code ks c.code) (list_all ks cs) false

all_listed : (ks : List Code) (c : Check) (cs : List Check) → T (list_all ks (c ∷ cs)) → (c.code ∈ ks) × T (list_all ks cs)
all_listed ks c cs = marked_or_not (lists_code ks c.code) (code_listed ks c.code)
  where
    marked_or_not : (t : Bool) → (T t → c.code ∈ ks) → T (cond t (list_all ks cs) false) → (c.code ∈ ks) × T (list_all ks cs)
    marked_or_not true e t = (e tt, t)
    marked_or_not false e t = absurd t

-- then what is decided by the checks has a code that is listed
module _ (ks : List Code) (k : Code) where
  success_listed : (cs : List Check) → T (list_all ks cs) → k ≡ Success → k ∈ ks
  success_listed [] t e = subst (λ (c : Code). c ∈ ks) (sym e) (code_listed ks Success t)
  success_listed (c ∷ cs) t e = success_listed cs (all_listed ks c cs t).1 e

  first_listed : (cs : List Check) → T (list_all ks cs) → FirstGiven cs k → k ∈ ks
  first_listed [] t f = absurd f
  first_listed (c ∷ cs) t (inl f) = subst (λ (x : Code). x ∈ ks) (sym f.1) (all_listed ks c cs t).0
  first_listed (c ∷ cs) t (inr f) = first_listed cs (all_listed ks c cs t).1 f.1

  decided_then_listed : (cs : List Check) {kept rest : Type 0} → T (list_all ks cs) → (rest → k ∈ ks) → DecidedThen cs k kept rest → k ∈ ks
  decided_then_listed cs t marked_or_not = ⊎_elim (λ f. first_listed cs t f.0) (λ r. marked_or_not r.1)

  decided_listed : (cs : List Check) {kept done : Type 0} → T (list_all ks cs) → Decided cs k kept done → k ∈ ks
  decided_listed cs t = decided_then_listed cs t (λ d. success_listed cs t d.0)

-- the services
module _ (F : Facts) (h : ℕ) (p : List ℕ) (o : Outcome) where
  abbrev codes : List Code
  codes = codes_of (service adjust_resource_info)

  levels_listed : AdjustIrq F h p o → o.code ∈ codes
  levels_listed =
      ⊎_elim (λ r. decided_listed codes _ (add_level_checks F (level_given p) (level_attributes p)) tt r.1)
      (⊎_elim (λ r. decided_listed codes _ (remove_level_checks F (level_given p) (level_attributes p)) tt r.1)
      (λ r. decided_listed codes _ (show_level_checks F (action_of p) (level_given p)) tt r.1))

  ranges_listed : (w : Width) → AdjustIo w F h p o → o.code ∈ codes
  ranges_listed w =
      ⊎_elim (λ r. decided_listed codes _ (add_range_checks F (base_given w p) (count_given w p) (attributes_given w p) (lines_given w p)) tt r.1)
      (⊎_elim (λ r. decided_listed codes _ (remove_range_checks F (base_given w p) (count_given w p) (attributes_given w p) (lines_given w p)) tt r.1)
      (λ r. decided_listed codes _ (show_range_checks w F (action_of p) (base_given w p)) tt r.1))

  by_resource_listed : ByResource F h p o → o.code ∈ codes
  by_resource_listed = ⊎_elim (λ r. levels_listed r.1) (λ r. ranges_listed r.1 r.3)

  rule_listed : (v : Service) → rule_of v F h p o → o.code ∈ codes_of (service v)
  rule_listed register_client = decided_listed (codes_of (service register_client)) _ (register_checks F p) tt
  rule_listed deregister_client = decided_listed (codes_of (service deregister_client)) _ (deregister_checks F h p) tt
  rule_listed adjust_resource_info = decided_then_listed codes _ (adjust_checks p) tt by_resource_listed
  rule_listed request_irq = decided_listed (codes_of (service request_irq)) _ (irq_request_checks F h p) tt
  rule_listed release_irq = decided_listed (codes_of (service release_irq)) _ (irq_release_checks F h p) tt
  rule_listed request_io = decided_listed (codes_of (service request_io)) _ (io_request_checks F h p) tt
  rule_listed release_io = decided_listed (codes_of (service release_io)) _ (io_release_checks F h p) tt
  rule_listed request_socket_mask = decided_listed (codes_of (service request_socket_mask)) _ (request_mask_checks F h p) tt
  rule_listed release_socket_mask = decided_listed (codes_of (service release_socket_mask)) _ (release_mask_checks F h p) tt

  call_listed : (v : Service) → Call (service_number v) F h p o → o.code ∈ codes_of (service v)
  call_listed v (inl (s, r)) =
      subst (λ (u : Service). o.code ∈ codes_of (service u)) (number_injective s.service v s.number_is) (rule_listed s.service r)
  call_listed v (inr r) = absurd (r.0 (record { service = v; number_is = refl }))

-- the boot list
record_listed : (F : Facts) (r : Record) → T (list_all (codes_of boot_list) (record_checks F r))
record_listed F r = marked_or_not (eqb r.resource io_range)
  where
    marked_or_not : (io : Bool)
        → T (list_all (codes_of boot_list)
        (cond io (add_range_checks F r.base r.count r.attributes most_lines) (add_level_checks F r.base r.attributes)))
    marked_or_not true = tt
    marked_or_not false = tt

end_listed : (b : List ℕ) → end_of b ∈ codes_of boot_list
end_listed b = marked_or_not (eqb (length b % record_size) 0)
  where
    marked_or_not : (none : Bool) → cond none Success BadArgLength ∈ codes_of boot_list
    marked_or_not true = code_listed (codes_of boot_list) Success tt
    marked_or_not false = code_listed (codes_of boot_list) BadArgLength tt

module _ (e : Code) (listed : e ∈ codes_of boot_list) where
  boot_listed : (F : Facts) (rs : List Record) (i : ℕ) (o : Booted) → Boot e F rs i o → o.code ∈ codes_of boot_list
  boot_listed F [] i o ended = listed
  boot_listed F (r ∷ rs) i o (refused g) = first_listed (codes_of boot_list) o.code (record_checks F r) (record_listed F r) g
  boot_listed F (r ∷ rs) i o (added p b) = boot_listed _ _ _ o b

-- a table that isn't accepted
general_listed : (v : Service) → GeneralFailure ∈ codes_of (service v)
general_listed register_client = inl refl
general_listed deregister_client = inl refl
general_listed adjust_resource_info = inl refl
general_listed request_irq = inl refl
general_listed release_irq = inl refl
general_listed request_io = inl refl
general_listed release_io = inl refl
general_listed request_socket_mask = inl refl
general_listed release_socket_mask = inl refl

pub none_else : (x : Asked) (k : Code) → CanGive Ours x k → k ∈ codes_of x
none_else (service v) k (h, a, p, q, b, b', y) =
    ⊎_elim (λ s. call_listed _ h p _ v s.rule)
    (λ u. subst (λ (c : Code). c ∈ codes_of (service v)) (sym u.0.code_is) (general_listed v)) (called _ h p q k a y)
none_else no_service k (n, h, a, p, q, b, b', other, y) =
    ⊎_elim (λ s. ⊎_elim (λ r. absurd (other r.0)) (λ r. inr (inl r.1)) s.rule) (λ u. inl u.0.code_is) (called n h p q k a y)
none_else card_in_case k (s, b, b', y) =
    ⊎_elim (λ x. decided_listed (codes_of card_in_case) k (card_checks x.accepted.facts s) tt x.rule) (λ u. inl u.code_is) (carded true s k y)
none_else card_out_case k (s, b, b', y) =
    ⊎_elim (λ x. decided_listed (codes_of card_out_case) k (card_checks x.accepted.facts s) tt x.rule) (λ u. inl u.code_is) (carded false s k y)
none_else boot_list k (r, b, b', i, y) =
    ⊎_elim (λ x. boot_listed (end_of r) (end_listed r) x.accepted.facts (records_of r) 0 _ x.rule) (λ u. inl u.0.code_is) (booted r k i y)
none_else sharers_of k (l, c, b, b', y) =
    ⊎_elim (λ x. decided_listed (codes_of sharers_of) k (sharers_checks l) tt x.1) (λ u. inl u.0.code_is) (counted l k c y.0)
none_else fresh_table k (n, b, b', y) =
    ⊎_elim (λ x. inr (inl (code_injective k Success x.1))) (λ x. inl (code_injective k GeneralFailure x.1)) y
