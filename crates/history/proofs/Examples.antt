-- An example of each code that a service or a call of the host can give. Assumes nothing.
use Rattle.facts.proofs.Words.{refl, sym, ap, subst, inl, inr, List, [], ◌∷◌, ◌++◌, Bool, true, false, true≢false, false≢true, none}
use Rattle.facts.proofs.Words.{none-ne-some, some-injective, ℕ, ◌≤◌, arith, replicate, T, WellFormed}
use Rattle.facts.specs.Boot
use Rattle.facts.specs.{Code, Success, BadAttribute, BadBase, BadIrq, BadSize, BadSocket, NoCard, UnsupportedService, GeneralFailure, BadArgLength}
use Rattle.facts.specs.{BadArgs, InUse, NoMoreItems, OutOfResource, BadHandle, Exclusive, Wide, number_of, Facts, IrqGrant, fresh, most_ranges}
use Rattle.facts.specs.{most_lines, long, type_of, FirstGiven, Masks, with_clients, CardTo, with_card, with_mask, add_level_checks, add_range_checks, Sharers}
use Rattle.facts.specs.{IrqHeld, with_irq, with_io, Service, register_client, deregister_client, adjust_resource_info, request_irq, release_irq, request_io}
use Rattle.facts.specs.{release_io, request_socket_mask, release_socket_mask, service_number, Serves}
use Rattle.layout.specs.{image}
use Rattle.layout.proofs.{image_size}
use Rattle.promises.specs.{CardAnswers}
use Rattle.facts_cases.specs.{done, refused, managing, range, one_client, no_client, client_packet, add_packet}
use Rattle.facts.proofs.{named_one}
use Rattle.facts_cases.proofs.{cases, as_left, as_kept, ◌then◌, ◌nor◌}
use Rattle.history.specs.{Ours, Asked, service, no_service, card_in_case, card_out_case, boot_list, sharers_of, fresh_table, codes_of, CanGive}
use Rattle.history.proofs.Listed.{Each}
use Rattle.history.proofs.Giving.{all_bytes, no_table, uncalled, general, accepted, serving, calls, gives, refuses, boots, level_named}
use Rattle.history.proofs.Giving.{range_named, first, here, ◌past◌}
use Rattle.history.proofs.OnSockets.{two_sockets, one_client_lem, for, own_passed, own_refuses, begins, irq_requests, irq_releases, io_requests}
use Rattle.history.proofs.OnSockets.{io_releases, mask_requests, mask_releases}
use Rattle.history.proofs.ExampleTables.{irq_held, io_held, busy, idle_ready, irq_ready, io_ready, busy_ready, spent_formed, full_formed}
use Rattle.history.proofs.ExampleTables.{irq_naming, io_at, packet_irq, packet_io, mask_asked, irq_good, io_good, irq_granted, io_granted}
use Rattle.history.proofs.ExampleTables.{mask_granted, one_port_length, one_port_below}

-- what the client 1 holds where it holds everything: a mask, and a level; a packet that gives the level back, by its type
masked : Masks busy 1 0 1
masked = record { client = _; listed = inl refl; handle = refl; mask = refl }

held_irq : IrqHeld busy 1 0 3 (record { client = 1; level = 3; manner = Exclusive })
held_irq = record { live = refl; client = refl; level = refl }

abbrev irq_given : ℕ → List ℕ
irq_given type = type ∷ 0x00 ∷ 0x03 ∷ []

-- a boot list's record of a range: its attributes, the two bytes of its base and the one of its count
abbrev range_record : ℕ → ℕ → ℕ → ℕ → List ℕ
range_record a low high n = 1 ∷ a ∷ low ∷ high ∷ 0 ∷ 0 ∷ n ∷ 0 ∷ 0 ∷ 0 ∷ []

-- refused to add a level, or such a range, it gives the check's code
abbrev RefusesLevels : Asked → Type 0
RefusesLevels x =
    (F : Facts) → WellFormed F → (k : Code) (a l : ℕ) → T (all_bytes (a ∷ l ∷ [])) → FirstGiven (add_level_checks F l a) k → CanGive Ours x k

abbrev RefusesRanges : Asked → Type 0
RefusesRanges x =
    (F : Facts) → WellFormed F → (k : Code) (a low high n : ℕ) → T (all_bytes (low ∷ high ∷ n ∷ a ∷ []))
    → FirstGiven (add_range_checks F (long (range_record a low high n) 2) (long (range_record a low high n) 6) a most_lines) k
    → CanGive Ours x k

adjust_level : RefusesLevels (service adjust_resource_info)
adjust_level F w k a l t f =
    refuses w adjust_resource_info 0 (1 ∷ 2 ∷ a ∷ l ∷ []) k t (inr (level_named 1 a l (omega arith), inl (refl, inl (refl, first f))))

adjust_range : RefusesRanges (service adjust_resource_info)
adjust_range F w k a low high n t f =
    refuses w adjust_resource_info 0 (1 ∷ 1 ∷ low ∷ high ∷ 0 ∷ 0 ∷ n ∷ 0 ∷ 0 ∷ 0 ∷ a ∷ 16 ∷ []) k t
    (inr (range_named (low ∷ high ∷ 0 ∷ 0 ∷ n ∷ 0 ∷ 0 ∷ 0 ∷ a ∷ 16 ∷ []) refl, inr (refl, Wide, refl, inl (refl, first f))))

boot_level : RefusesLevels boot_list
boot_level F w k a l t f =
    boots w (2 ∷ a ∷ l ∷ replicate 7 0) 0 k F
    (Boot.refused
    ((omega arith nor omega arith nor omega arith) past (omega arith) past
    subst (λ (x : ℕ). FirstGiven (add_level_checks F x a) k) (omega arith) f))

boot_range : RefusesRanges boot_list
boot_range F w k a low high n t f =
    boots w (range_record a low high n) 0 k F
    (Boot.refused ((omega arith nor omega arith nor omega arith) past (omega arith) past f))

-- what Add's rules refuse
adds : (x : Asked) → RefusesLevels x → RefusesRanges x → {R : Type 0} → R
    → CanGive Ours x BadAttribute × (CanGive Ours x BadIrq × (CanGive Ours x BadSize × (CanGive Ours x BadBase × (CanGive Ours x InUse
    × (CanGive Ours x OutOfResource × R)))))
adds x level io rest =
    level _ two_sockets BadAttribute 1 3 tt (here (omega arith nor omega arith))
    then level _ two_sockets BadIrq 0 16 tt ((λ e. e (inl refl)) past here (omega arith))
    then io _ two_sockets BadSize 0 0x00 0x03 0 tt (((λ e. e (inl refl)) nor omega arith) past here (inl refl))
    then io _ two_sockets BadBase 0 0xFF 0xFF 2 tt
    (((λ e. e (inl refl)) nor omega arith) past (omega arith nor omega arith) past here (omega arith))
    then level _ idle_ready.formed InUse 0 3 tt ((λ e. e (inl refl)) past (omega arith) past here refl)
    then io _ full_formed OutOfResource 0 0x00 0x03 1 tt
    (((λ e. e (inl refl)) nor omega arith) past (omega arith nor omega arith) past (omega arith) past
    (λ e. omega (arith, e.1, e.2.has, one_port_below 0 most_ranges _ e.2.listed)) past
    here (omega (arith, one_port_length 0 most_ranges)))
    then rest

-- 0 is no service's number
numbered : (v : Service) → 1 ≤ service_number v
numbered register_client = omega arith
numbered deregister_client = omega arith
numbered adjust_resource_info = omega arith
numbered request_irq = omega arith
numbered release_irq = omega arith
numbered request_io = omega arith
numbered release_io = omega arith
numbered request_socket_mask = omega arith
numbered release_socket_mask = omega arith

pub none_serves : Serves 0 → ⊥
none_serves s = omega (arith, s.number_is, numbered s.service)

-- card in and card out, and the number of sharers
abbrev CardGives : Bool → Code → Type 0
CardGives present k = (s : ℕ) × (b b' : List ℕ) × CardAnswers present s b b' (number_of k)

card_gives : (present : Bool) (s : ℕ) (k : Code) (G : Facts) → CardTo present (fresh 2) s (record { code = k; facts = G }) → CardGives present k
card_gives present s k G r = (s, _, _, record { code = k; is = refl; permitted = inl (serving two_sockets G r) })

card_examples : (present : Bool) → Each (CardGives present) (GeneralFailure ∷ BadSocket ∷ Success ∷ [])
card_examples present =
    (0, [], [], record { code = GeneralFailure; is = refl; permitted = inr no_table })
    then card_gives present 2 BadSocket (fresh 2) (inl (here (omega arith), refl))
    then card_gives present 0 Success (with_card (fresh 2) 0 present) (inr ((omega arith) then tt, (refl, refl)))
    then tt

sharers_gives : (l : ℕ) (k : Code) → Sharers (fresh 2) l (record { code = k; count = 0 }) → CanGive Ours sharers_of k
sharers_gives l k r = (l, 0, _, _, (record { code = k; count = 0; packs = refl; permitted = inl (accepted two_sockets, r) }, refl))

-- in the order of the list of codes; on a socket, refused first by what each service begins with, and SUCCESS of a request is a step of the tables
pub examples : (x : Asked) → Each (CanGive Ours x) (codes_of x)
examples (service register_client) =
    general register_client
    then refuses two_sockets register_client 0 [] BadArgLength tt (first (here (omega arith)))
    then refuses two_sockets register_client 0 (replicate 14 0) BadAttribute tt
    (first ((omega arith) past here (λ a. (omega arith nor omega arith nor omega arith) a.type)))
    then refuses spent_formed register_client 0 client_packet OutOfResource tt
    (first ((omega arith) past (λ e. e (record { bits = omega arith; type = inr (inr refl) })) past (λ e. e (omega arith)) past
    here (inr (omega arith))))
    then gives two_sockets register_client 0 client_packet (done 1 client_packet one_client) tt cases.n10.0.permitted
    then tt
examples (service deregister_client) =
    general deregister_client
    then refuses two_sockets deregister_client 0 (0 ∷ []) BadArgLength tt (first (here (omega arith)))
    then refuses two_sockets deregister_client 0 [] BadHandle tt (first ((omega arith) past here (λ l. l.listed)))
    then refuses busy_ready.formed deregister_client 1 [] InUse tt
    (first ((omega arith) past (λ e. e busy_ready.live) past
    here (inl (record { seat = 0; range = _; held = refl; holder = refl }))))
    then gives one_client_lem.formed deregister_client 1 [] (done 1 [] no_client) tt cases.n10.1.permitted
    then tt
examples (service adjust_resource_info) =
    general adjust_resource_info
    then refuses two_sockets adjust_resource_info 0 [] BadArgLength tt (first (here (omega arith)))
    then refuses two_sockets adjust_resource_info 0 (4 ∷ 0 ∷ []) BadArgs tt (first ((omega arith) past here (omega arith)))
    then refuses two_sockets adjust_resource_info 0 (0 ∷ 0 ∷ []) UnsupportedService tt (first ((omega arith) past (omega arith) past here (inl refl)))
    then adds (service adjust_resource_info) adjust_level adjust_range
    (refuses two_sockets adjust_resource_info 0 (2 ∷ 2 ∷ 0 ∷ 0 ∷ []) NoMoreItems tt
    (inr (level_named 2 0 0 (omega arith), inl (refl, inr (inr (inl refl, first (here (λ l e. false≢true e.0)))))))
    then gives two_sockets adjust_resource_info 1 (add_packet 0xF8) (done 1 (add_packet 0xF8) (managing (range 0xFFF8 8) (fresh 2))) tt
    cases.n5.0.permitted
    then tt)
examples (service request_irq) =
    begins irq_requests tt
    (own_refuses irq_requests one_client_lem packet_irq refl tt NoCard (here refl)
    then own_refuses irq_requests idle_ready (3 ∷ replicate 5 0) refl tt BadAttribute (true≢false past here (inl refl))
    then own_refuses irq_requests idle_ready (replicate 6 0) refl tt BadArgs
    (true≢false past (omega arith nor omega arith nor omega arith nor omega arith nor omega arith) past here (inl (omega arith, omega arith)))
    then own_refuses irq_requests busy_ready packet_irq refl tt InUse
    (true≢false past (irq_good 3 (omega arith)).0 past (irq_good 3 (omega arith)).1 past here (λ e. none-ne-some _ (sym e)))
    then own_refuses irq_requests idle_ready (irq_naming 4 0) refl tt BadIrq
    (true≢false past (irq_good 4 (omega arith)).0 past (irq_good 4 (omega arith)).1 past (λ e. e refl) past
    here (λ l f. false≢true (rw (named_one (for 0 (irq_naming 4 0)) l (omega arith) f.named) at f.managed)))
    then gives idle_ready.formed request_irq 1 (for 0 packet_irq) (done 1 (for 0 (irq_naming 3 3)) irq_held) tt irq_granted
    then tt)
examples (service release_irq) =
    begins irq_releases tt
    (own_refuses irq_releases one_client_lem (irq_given 0) refl tt BadIrq (here (λ g h. none-ne-some g h.live))
    then own_refuses irq_releases busy_ready (irq_given 1) refl tt BadAttribute ((λ e. e _ held_irq) past here (_, held_irq, omega arith))
    then gives busy_ready.formed release_irq 1 (for 0 (irq_given 0)) (done 1 (for 0 (irq_given 0)) (with_irq busy 0 none)) tt
    (inr (
      own_passed irq_releases busy_ready (irq_given 0) refl
          ((λ e. e _ held_irq)
          then (λ e. e.2 (ap (λ (g : IrqGrant). type_of g.manner) (some-injective _ _ (sym e.1.live))))
          then tt),
      (refl, as_left _),
    ))
    then tt)
examples (service request_io) =
    begins io_requests tt
    (own_refuses io_requests one_client_lem packet_io refl tt NoCard (here refl)
    then own_refuses io_requests idle_ready (replicate 9 0) refl tt BadAttribute (true≢false past here (inr (inr (inl refl))))
    then own_refuses io_requests idle_ready (replicate 8 0 ++ (0x10 ∷ [])) refl tt BadSize
    (true≢false past (omega arith nor omega arith nor omega arith nor omega arith) past here (inl refl))
    then own_refuses io_requests busy_ready packet_io refl tt InUse
    (true≢false past (io_good 0x00 0x03).0 past (io_good 0x00 0x03).1 past here (λ e. none-ne-some _ (sym e)))
    then own_refuses io_requests idle_ready (io_at 0xFF 0xFF) refl tt BadBase
    (true≢false past (io_good 0xFF 0xFF).0 past (io_good 0xFF 0xFF).1 past (λ e. e refl) past here (omega arith, inl (omega arith)))
    then gives irq_ready.formed request_io 1 (for 0 packet_io) (done 1 (for 0 packet_io) io_held) tt io_granted
    then tt)
examples (service release_io) =
    begins io_releases tt
    (own_refuses io_releases one_client_lem (replicate 6 0 ++ (1 ∷ 0 ∷ 0 ∷ [])) refl tt BadSize (here (omega arith))
    then own_refuses io_releases one_client_lem packet_io refl tt BadBase ((omega arith) past here (λ h. none-ne-some _ h.held))
    then gives busy_ready.formed release_io 1 (for 0 packet_io) (done 1 (for 0 packet_io) (with_io busy 0 none)) tt
    (inr (
      own_passed io_releases busy_ready packet_io refl
          ((omega arith) then (λ e. e (record { range = _; held = refl; client = refl; base_is = refl; count_is = refl })) then tt),
      (refl, as_left _),
    ))
    then tt)
examples (service request_socket_mask) =
    begins mask_requests tt
    (own_refuses mask_requests one_client_lem mask_asked refl tt NoCard (here refl)
    then own_refuses mask_requests idle_ready (0x00 ∷ 0x10 ∷ []) refl tt BadAttribute (true≢false past here (omega arith))
    then own_refuses mask_requests busy_ready mask_asked refl tt InUse (true≢false past (λ e. e (omega arith)) past here (1, masked))
    then gives io_ready.formed request_socket_mask 1 (for 0 mask_asked) (done 1 (for 0 mask_asked) busy) tt mask_granted
    then tt)
examples (service release_socket_mask) =
    begins mask_releases tt
    (gives busy_ready.formed release_socket_mask 1 (for 0 []) (done 1 (for 0 []) (with_clients busy (with_mask 1 0 none busy.clients))) tt
    (inr (own_passed mask_releases busy_ready [] refl ((λ e. e (1, masked)) then tt), (refl, as_left _)))
    then tt)
examples no_service =
    (0, 0, 0, [], [], [], [], none_serves, uncalled 0)
    then (0, 0, 0, [], [], _, _, none_serves, calls two_sockets 0 0 [] (refused UnsupportedService [] _) tt (inr (none_serves, refl, as_kept _ _ _)))
    then tt
examples card_in_case = card_examples true
examples card_out_case = card_examples false
examples boot_list =
    ([], [], [], 0, record { code = GeneralFailure; place = 0; packs = refl; permitted = inr (no_table, refl) })
    then boots two_sockets (0 ∷ []) 0 BadArgLength (fresh 2) Boot.ended
    then boots two_sockets (replicate 10 0) 0 UnsupportedService (fresh 2) (Boot.refused (here (inl refl)))
    then boots two_sockets (5 ∷ replicate 9 0) 0 BadArgs (fresh 2)
    (Boot.refused ((omega arith nor omega arith nor omega arith) past here (omega arith)))
    then adds boot_list boot_level boot_range (boots two_sockets [] 0 Success (fresh 2) Boot.ended then tt)
examples sharers_of =
    (0, 0, [], [], (record { code = GeneralFailure; count = 0; packs = refl; permitted = inr (no_table, refl) }, refl))
    then sharers_gives 16 BadIrq (inl (here (omega arith), refl))
    then sharers_gives 0 Success (inr ((omega arith) then tt, (refl, refl)))
    then tt
examples fresh_table =
    (0, [], [], inr (λ a. omega (arith, a.least), refl, refl))
    then (2, image (fresh 2), _, inl (record { size = image_size (fresh 2); least = omega arith; most = omega arith }, refl, refl))
    then tt
