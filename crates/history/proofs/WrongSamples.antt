-- Keepers that are wrong once, on the tables of the examples: each name says what the keeper does. Assumes nothing.
use Rattle.facts.proofs.Words.{◌≡◌, refl, ap, sym, ◌∙◌, subst, inl, inr, ⊎_elim, List, [], ◌∷◌, ◌++◌, true, false, true≢false, none, some}
use Rattle.facts.proofs.Words.{none-ne-some, ℕ, arith, WellFormed}
use Rattle.facts.specs.{Code, Success, Facts, Client, Level, IoGrant, IrqGrant, fresh, with_clients, registered as entered, with_mask, level_added}
use Rattle.facts.specs.{with_level, with_irq, irq_grant, RequestIo, with_io, io_grant, Service, register_client, adjust_resource_info, request_irq, request_io}
use Rattle.facts.specs.{release_io, service_number, io_asked, irq_asked}
use Rattle.facts.proofs.{put_is, number_injective, fresh_formed, level_formed, io_formed, irq_formed, mask_formed, level_added_formed}
use Rattle.layout.specs.{image}
use Rattle.facts_cases.specs.{done, one_client, client_packet}
use Rattle.facts_cases.proofs.{◌then◌}
use Rattle.history.specs.{Event, call, sharers, Ours, FromFresh, Fact, mask, level, io, irq, Made, Makes, io_made, io_back, irq_made, Tells}
use Rattle.history.specs.{Name, the_client, the_mask, the_level, the_range, the_card, the_io, the_irq, the_issued, the_sockets, name_of, Exact}
use Rattle.history.specs.{ExactSince, Frame, OneGrant, PortsApart, LevelsApart, SharersCounted}
use Rattle.history.specs.Stands.{Stands}
use Rattle.history.proofs.Inverse.{release_io_makes_none, request_io_keeps, request_irq_keeps}
use Rattle.history.proofs.Runs.{exact}
use Rattle.history.proofs.Standing.{last_stands}
use Rattle.history.proofs.Giving.{left, serves}
use Rattle.history.proofs.OnSockets.{for, one_client_lem}
use Rattle.history.proofs.ExampleTables.{idle, irq_held, io_held, busy, idle_ready, irq_ready, io_ready, busy_ready, packet_irq, packet_io, io_at}
use Rattle.history.proofs.ExampleTables.{irq_naming}
use Rattle.history.proofs.SampleRuns.{made_two, from_two, says, registers, before, ours_begins, set_up, set_up_two, register_permitted, pair}
use Rattle.history.proofs.SampleRuns.{pair_formed, asks_irq, asks_io, irq_step, io_step}
use Rattle.history.proofs.WrongGrants.{io_also, eight_names, first_granted, keeps_all}
use Rattle.history.proofs.WrongOnce.{Besides}
use Rattle.history.proofs.WrongHistory.{exact_stays_wrong, exact_sockets_wrong, io_strange_wrong, since_issued_wrong, success_takes_wrong}
use Rattle.history.proofs.WrongHistory.{two_ios_wrong, two_irqs_wrong, ports_unshared_wrong, level_unshared_wrong, none_counted_wrong}
use Rattle.history.proofs.WrongHistory.{counted_twice_wrong}

-- names of different kinds differ, and names with different numbers
abbrev name_kind : Name → ℕ
name_kind (the_client h) = 0
name_kind (the_mask h s) = 1
name_kind (the_level l) = 2
name_kind (the_range b) = 3
name_kind (the_card s) = 4
name_kind (the_io s) = 5
name_kind (the_irq s) = 6
name_kind the_issued = 7
name_kind the_sockets = 8

abbrev number_named : Name → ℕ
number_named (the_client h) = h
number_named (the_mask h s) = h
number_named (the_level l) = l
number_named (the_range b) = b
number_named (the_card s) = s
number_named (the_io s) = s
number_named (the_irq s) = s
number_named the_issued = 0
number_named the_sockets = 0

-- Frame: a granted RequestIO that takes the socket's IRQ grant
pub io_takes_irq_wrong : Frame (Besides asks_io (image irq_held) (image (with_irq io_held 0 none))) → ⊥
io_takes_irq_wrong =
    success_takes_wrong request_io 1 (for 0 packet_io) 1 (for 0 packet_io) irq_ready.formed
    (irq_formed io_held io_ready.formed 0 none (λ g e. absurd (none-ne-some g e)) (λ t g g' d e. absurd (none-ne-some g e)))
    (irq 0 (irq_grant 1 (irq_asked (for 0 packet_irq)) 3)) (⊎_elim (λ e. omega (arith, ap name_kind e)) absurd) (λ e. omega (arith, ap service_number e.0)) refl
    (λ e. none-ne-some _ e)

-- Frame: a RegisterClient that drops a mask
abbrev crowded : Facts
crowded = entered busy 4 0

crowded_formed : WellFormed crowded
crowded_formed =
    left busy_ready.formed register_client 0 client_packet (done 2 client_packet crowded) tt (register_permitted busy (omega arith) (omega arith))

abbrev dropped : Facts
dropped = with_clients crowded (with_mask 1 0 none crowded.clients)

pub register_drops_mask_wrong : Frame (Besides (registers 2) (image busy) (image dropped)) → ⊥
register_drops_mask_wrong =
    success_takes_wrong register_client 0 client_packet 2 client_packet busy_ready.formed
    (mask_formed crowded 1 0 none crowded_formed (λ e q. absurd (none-ne-some e q))) (mask 1 0 1)
    (⊎_elim (λ e. omega (arith, ap name_kind e)) (⊎_elim (λ e. omega (arith, ap name_kind e)) absurd)) (λ e. omega (arith, ap service_number e.0))
    (_, inl refl, refl, refl) gone
  where
    gone : Tells dropped (mask 1 0 1) → ⊥
    gone (c, listed, handle, has) =
        ⊎_elim (λ e. none-ne-some 1 (sym (ap (λ (x : Client). x.mask 0) e) ∙ has))
        (⊎_elim (λ e. omega (arith, handle, ap (λ (x : Client). x.handle) e)) absurd) listed

-- Frame: an Add of the level 5 that reserves the level 3
abbrev add_five : List ℕ
add_five = 1 ∷ 2 ∷ 0 ∷ 5 ∷ []

abbrev reserving : Facts
reserving = with_level (level_added idle 5 0) 3 (record { managed = true; reserved = true })

pub add_reserves_another_wrong : Frame (Besides (call (service_number adjust_resource_info) 1 add_five Success 1 add_five) (image idle) (image reserving)) → ⊥
add_reserves_another_wrong =
    success_takes_wrong adjust_resource_info 1 add_five 1 add_five idle_ready.formed
    (level_formed (level_added idle 5 0) (level_added_formed idle idle_ready.formed 5 0 ((λ e. e (inl refl)) then (omega arith) then (λ e. true≢false (sym e)) then tt)) 3
    (record { managed = true; reserved = true }) (omega arith) (λ e. refl) (λ s g e at. refl))
    (level 3 false) (λ m. m)
    (λ e. ⊎_elim (λ l. omega (arith, ap number_named l.1)) (λ r. omega (arith, r.0)) e.1.named) refl
    (λ e. true≢false (ap (λ (v : Level). v.reserved) e))

-- Exact: a ReleaseIO that only says so
makes_none_of : (v : Service) (h : ℕ) (p : List ℕ) (k : Code) (a : ℕ) (q : List ℕ) → ((f : Fact) → Made h p a q v f → ⊥) → (f : Fact)
    → Makes (call (service_number v) h p k a q) f → ⊥
makes_none_of v h p k a q nothing f m = nothing f (subst (λ (x : Service). Made h p a q x f) (number_injective m.1 v m.2) m.3)

granted_both : FromFresh Ours 2 (before ++ (asks_irq ∷ asks_io ∷ [])) (image io_held)
granted_both =
    set_up Ours ours_begins (asks_irq ∷ asks_io ∷ []) (image io_held) (tt, image irq_held, irq_step, (tt, image io_held, io_step, refl))

abbrev gives_io : ℕ → Event
gives_io h = call (service_number release_io) h (for 0 packet_io) Success h (for 0 packet_io)

pub release_says_so_wrong : Exact (Besides (gives_io 1) (image io_held) (image io_held)) → ⊥
release_says_so_wrong =
    exact_stays_wrong 2 (before ++ (asks_irq ∷ asks_io ∷ [])) (image io_held) granted_both (gives_io 1) tt io_ready.formed
    (io 0 (io_grant 1 (io_asked (for 0 packet_io)) 0x300)) (refl, release_io, refl, io_back refl refl refl)
    (makes_none_of release_io 1 (for 0 packet_io) Success 1 (for 0 packet_io) (release_io_makes_none (λ (f : Fact). ⊥)) _) refl

-- Exact: the client 2 gives back what the client 1 holds
abbrev held : Facts
held = io_also pair 1 (for 0 packet_io)

held_permitted : RequestIo pair 1 (for 0 packet_io) (done 1 (for 0 packet_io) held)
held_permitted =
    first_granted packet_io (eight_names 0 0x00 0x03 0 16 (omega arith) (omega arith) (omega arith) (omega arith) (omega arith) (omega arith)) refl

held_granted : FromFresh Ours 2 (before ++ (registers 2 ∷ asks_io ∷ [])) (image held)
held_granted =
    set_up_two Ours ours_begins (asks_io ∷ []) (image held)
    (tt, image held, serves pair_formed request_io 1 (for 0 packet_io) (done 1 (for 0 packet_io) held) tt held_permitted, refl)

held_formed : WellFormed held
held_formed = left pair_formed request_io 1 (for 0 packet_io) (done 1 (for 0 packet_io) held) tt held_permitted

pub stranger_releases_wrong : Exact (Besides (gives_io 2) (image held) (image (with_io held 0 none))) → ⊥
stranger_releases_wrong =
    io_strange_wrong 2 (before ++ (registers 2 ∷ asks_io ∷ [])) (image held) held_granted 2 (for 0 packet_io) 2 (for 0 packet_io)
    (io_formed held held_formed 0 none (λ g e. absurd (none-ne-some g e)) (λ t g g' d e. absurd (none-ne-some g e))) 0
    (io_grant 1 (io_asked (for 0 packet_io)) 0x300) (last_stands _ (before ++ (registers 2 ∷ [])) asks_io (inl (refl, request_io, refl, io_made)))
    (λ e. none-ne-some _ e) (inl (omega arith))

-- Exact: a question that makes a socket more
pub question_adds_socket_wrong : Exact (Besides (sharers 3 Success 0) (image (fresh 2)) (image (fresh 3))) → ⊥
question_adds_socket_wrong =
    exact_sockets_wrong 2 [] (image (fresh 2)) (from_two made_two [] _ refl) (sharers 3 Success 0) tt (fresh_formed 3 (omega arith) (omega arith)) (omega arith)

-- ExactSince: on a table with a client, a RegisterClient that only says so
pub register_says_so_wrong : ExactSince (Besides (registers 2) (image one_client) (image one_client)) → ⊥
register_says_so_wrong = since_issued_wrong one_client_lem.formed (registers 2) tt one_client_lem.formed (omega arith)

-- OneGrant: another grant on a socket that has one, of I/O ports and of a level
abbrev log : List Event
log = before ++ (asks_irq ∷ asks_io ∷ [])

abbrev asks_io_again : Event
asks_io_again = call (service_number request_io) 1 (for 0 (io_at 0x08 0x03)) Success 1 (for 0 (io_at 0x08 0x03))

abbrev asks_irq_again : Event
asks_irq_again = call (service_number request_irq) 1 (for 0 packet_irq) Success 1 (for 0 (irq_naming 3 5))

io_stands : Stands log (io 0 (io_grant 1 (io_asked (for 0 packet_io)) 0x300))
io_stands = last_stands _ (before ++ (asks_irq ∷ [])) asks_io (inl (refl, request_io, refl, io_made))

irq_stands : Stands log (irq 0 (irq_grant 1 (irq_asked (for 0 packet_irq)) 3))
irq_stands =
    last_stands _ (before ++ (asks_irq ∷ [])) asks_io (inr (
      last_stands _ before asks_irq (inl (refl, request_irq, refl, irq_made)),
      keeps_all request_io 1 (for 0 packet_io) Success 1 (for 0 packet_io) (request_io_keeps (λ (f : Fact). ⊥)) _,
    ))

pub second_io_wrong : OneGrant (Besides asks_io_again (image io_held) (image io_held)) → ⊥
second_io_wrong =
    two_ios_wrong 2 log (image io_held) granted_both asks_io_again tt (image io_held) 0 (io_grant 1 (io_asked (for 0 packet_io)) 0x300)
    (io_grant 1 (io_asked (for 0 (io_at 0x08 0x03))) 0x308)
    (record {
      stood = io_stands;
      kept = keeps_all request_io 1 (for 0 (io_at 0x08 0x03)) Success 1 (for 0 (io_at 0x08 0x03)) (request_io_keeps (λ (f : Fact). ⊥)) _;
      made = (refl, request_io, refl, io_made);
    })
    (λ e. omega (arith, ap (λ (g : IoGrant). g.ports.base) e))

pub second_irq_wrong : OneGrant (Besides asks_irq_again (image io_held) (image io_held)) → ⊥
second_irq_wrong =
    two_irqs_wrong 2 log (image io_held) granted_both asks_irq_again tt (image io_held) 0 (irq_grant 1 (irq_asked (for 0 packet_irq)) 3) (irq_grant 1 (irq_asked (for 0 packet_irq)) 5)
    (record {
      stood = irq_stands;
      kept = keeps_all request_irq 1 (for 0 packet_irq) Success 1 (for 0 (irq_naming 3 5)) (request_irq_keeps (λ (f : Fact). ⊥)) _;
      made = (refl, request_irq, refl, irq_made);
    })
    (λ e. omega (arith, ap (λ (g : IrqGrant). g.level) e))

-- PortsApart, LevelsApart: the socket 1 is granted the ports, or the level, that the socket 0 has for itself
abbrev asks_io_too : Event
asks_io_too = call (service_number request_io) 1 (for 1 packet_io) Success 1 (for 1 packet_io)

abbrev asks_irq_too : Event
asks_irq_too = call (service_number request_irq) 1 (for 1 packet_irq) Success 1 (for 1 (irq_naming 3 3))

pub same_ports_wrong : PortsApart (Besides asks_io_too (image io_held) (image io_held)) → ⊥
same_ports_wrong =
    ports_unshared_wrong 2 log (image io_held) granted_both asks_io_too tt (image io_held) 0 1 (io_grant 1 (io_asked (for 0 packet_io)) 0x300) (io_grant 1 (io_asked (for 1 packet_io)) 0x300)
    (record {
      stood = io_stands;
      kept = keeps_all request_io 1 (for 1 packet_io) Success 1 (for 1 packet_io) (request_io_keeps (λ (f : Fact). ⊥)) _;
      made = (refl, request_io, refl, io_made);
    })
    (λ e. omega (arith, ap (λ (f : Fact). number_named (name_of f)) e))
    (record { one = 0x300; other = 0x300; one_in = omega arith; other_in = omega arith; equal = refl }) (λ both. true≢false (sym both.0))

pub same_level_wrong : LevelsApart (Besides asks_irq_too (image io_held) (image io_held)) → ⊥
same_level_wrong =
    level_unshared_wrong 2 log (image io_held) granted_both asks_irq_too tt (image io_held) 0 1 (irq_grant 1 (irq_asked (for 0 packet_irq)) 3) (irq_grant 1 (irq_asked (for 1 packet_irq)) 3)
    (record {
      stood = irq_stands;
      kept = keeps_all request_irq 1 (for 1 packet_irq) Success 1 (for 1 (irq_naming 3 3)) (request_irq_keeps (λ (f : Fact). ⊥)) _;
      made = (refl, request_irq, refl, irq_made);
    })
    (λ e. omega (arith, ap (λ (f : Fact). number_named (name_of f)) e)) refl (λ together. together.shares refl)

-- SharersCounted: none is counted, or one twice, where the socket 0 shares the level 3
pub none_told_wrong : SharersCounted (Besides (sharers 3 Success 0) (image io_held) (image io_held)) → ⊥
none_told_wrong = none_counted_wrong 2 log (image io_held) granted_both 3 0 (_, irq_stands, refl)

pub two_told_wrong : SharersCounted (Besides (sharers 3 Success 2) (image io_held) (image io_held)) → ⊥
two_told_wrong = counted_twice_wrong 2 log (image io_held) granted_both 3 0 only
  where
    only : (t : ℕ) → (g : IrqGrant) × Stands log (irq t g) × (g.level ≡ 3) → t ≡ 0
    only t (g, stands, at) =
        let x = exact 2 log (image io_held) granted_both in
        let told = subst (λ (F : Facts). F.irq t ≡ some g) (says io_ready.formed x.accepted) ((x.tells (irq t g)).1 stands) in
        ⊎_elim (λ k. k.0) (λ k. absurd (none-ne-some g (sym k.1 ∙ told)))
        (put_is idle.irq 0 (some (irq_grant 1 (irq_asked (for 0 packet_irq)) 3)) t)
