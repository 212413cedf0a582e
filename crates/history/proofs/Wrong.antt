-- Wrong keepers, and of each the clause that it breaks; those whose grants meet are in WrongGrants. Assumes nothing.
use Rattle.facts.proofs.Words.{◌≡◌, refl, ap, sym, ◌∙◌, subst, ◌⊎◌, inl, inr, ⊎_elim, ◌≢◌, List, [], ◌∷◌, ◌++◌, true, false, false≢true, none, some}
use Rattle.facts.proofs.Words.{none-ne-some, some-injective, ℕ, ◌+◌, arith, length, WellFormed}
use Rattle.facts.specs.{Code, Success, GeneralFailure, BadSocket, BadHandle, InUse, number_of, Facts, Client, Level, IrqGrant, fresh, ◌∈◌, byte}
use Rattle.facts.specs.{with_clients, registered as entered, with_card, with_mask, with_irq, irq_grant, level_asked_lem, assigning, io_grant, Service}
use Rattle.facts.specs.{register_client, deregister_client, request_irq, request_io, service_number, io_asked, irq_asked}
use Rattle.facts.proofs.{put_is, card_formed, irq_formed, mask_formed}
use Rattle.layout.specs.{image, Accepted}
use Rattle.facts_cases.specs.{done, refused, one_client, no_client, client_packet}
use Rattle.facts_cases.proofs.{cases, as_kept, ◌then◌, listed_alone}
use Rattle.history.specs.{Event, make_fresh, call, card_in, card_out, boot, sharers, code_in, number_in, Keeper, Ours, card, level, mask, io, irq}
use Rattle.history.specs.{client_made, io_made, Tells, the_card, the_mask, Exact, Frame, CardOutKeeps, NeverAgain, Number, SharersCounted}
use Rattle.history.specs.{service, OneOutcome, RefusalKeeps, ExactCodes}
use Rattle.history.specs.Stands.{Stands}
use Rattle.history.proofs.Turns.{kind}
use Rattle.history.proofs.Standing.{stands_never}
use Rattle.history.proofs.Runs.{exact}
use Rattle.history.proofs.Giving.{serving, serves, accepted, left, here, ◌past◌}
use Rattle.history.proofs.OnSockets.{two_sockets, one_client_lem, for}
use Rattle.history.proofs.ExampleTables.{idle, irq_held, io_held, busy, idle_ready, irq_ready, busy_ready, packet_irq, packet_io, irq_naming}
use Rattle.history.proofs.SampleRuns.{made_two, from_two, says, registers, before, Ungranted, registered, BeginsAlike, set_up, ours_begins}
use Rattle.history.proofs.SampleRuns.{asks_irq, asks_io, irq_step, io_step}

-- wrong at the calls of one service, at card out, or at the question for sharers; else as this keeper
abbrev pub At : Service → (ℕ → List ℕ → Code → ℕ → List ℕ → List ℕ → List ℕ → Type 0) → Keeper
At v W (make_fresh n k) b b' = Ours (make_fresh n k) b b'
At v W (call n h p k a q) b b' = ((n ≡ service_number v) × W h p k a q b b') ⊎ ((n ≢ service_number v) × Ours (call n h p k a q) b b')
At v W (card_in s k) b b' = Ours (card_in s k) b b'
At v W (card_out s k) b b' = Ours (card_out s k) b b'
At v W (boot r k i) b b' = Ours (boot r k i) b b'
At v W (sharers l k c) b b' = Ours (sharers l k c) b b'

abbrev AtCardOut : (ℕ → Code → List ℕ → List ℕ → Type 0) → Keeper
AtCardOut W (make_fresh n k) b b' = Ours (make_fresh n k) b b'
AtCardOut W (call n h p k a q) b b' = Ours (call n h p k a q) b b'
AtCardOut W (card_in s k) b b' = Ours (card_in s k) b b'
AtCardOut W (card_out s k) b b' = W s k b b'
AtCardOut W (boot r k i) b b' = Ours (boot r k i) b b'
AtCardOut W (sharers l k c) b b' = Ours (sharers l k c) b b'

abbrev AtSharers : (ℕ → Code → ℕ → List ℕ → List ℕ → Type 0) → Keeper
AtSharers W (make_fresh n k) b b' = Ours (make_fresh n k) b b'
AtSharers W (call n h p k a q) b b' = Ours (call n h p k a q) b b'
AtSharers W (card_in s k) b b' = Ours (card_in s k) b b'
AtSharers W (card_out s k) b b' = Ours (card_out s k) b b'
AtSharers W (boot r k i) b b' = Ours (boot r k i) b b'
AtSharers W (sharers l k c) b b' = W l k c b b'

-- "One that changes nothing": it answers, and leaves every byte of the table
abbrev Idle : Keeper
Idle e b b' = (m : List ℕ) × Ours e b m × (b' ≡ b)

pub idle_wrong : Exact Idle → ⊥
idle_wrong x =
    let t = x 2 (registers 1 ∷ []) (image (fresh 2))
    (from_two (image (fresh 2), made_two, refl) (registers 1 ∷ []) _ (tt, image (fresh 2), (image one_client, registered, refl), refl)) in
    omega (arith, t.issued_are, ap (λ (F : Facts). F.issued) (says two_sockets t.accepted))

-- "One that grants once and then only says so": where there is an IRQ grant, it answers and leaves the table
abbrev Held : List ℕ → Type 0
Held b = (a : Accepted b) × (s : ℕ) × (g : IrqGrant) × (a.facts.irq s ≡ some g)

abbrev Once : Keeper
Once e b b' = (m : List ℕ) × Ours e b m × (((Held b → ⊥) × (b' ≡ m)) ⊎ (Held b × (b' ≡ b)))

unheld : {F : Facts} → WellFormed F → Ungranted F → Held (image F) → ⊥
unheld {F} w free held = free held.1 held.2 (subst (λ (G : Facts). G.irq held.1 ≡ some held.2) (says w held.0) held.3)

once_begins : BeginsAlike Once
once_begins =
    record {
      makes = λ n k F G w free s. (image G, s, inl (unheld w free, refl));
      calls = λ n h p k a q F G w free s. (image G, s, inl (unheld w free, refl));
      cards = λ t k F G w free s. (image G, s, inl (unheld w free, refl));
    }

pub once_wrong : Exact Once → ⊥
once_wrong x =
    let t = x 2 (before ++ (asks_irq ∷ asks_io ∷ [])) (image irq_held)
    (set_up Once once_begins (asks_irq ∷ asks_io ∷ []) (image irq_held) (
      tt,
      image irq_held,
      (image irq_held, irq_step, inl (unheld idle_ready.formed (λ s g. none-ne-some g), refl)),
      (tt, image irq_held, (image io_held, io_step, inr ((accepted irq_ready.formed, 0, _, refl), refl)), refl),
    )) in
    let stands : Stands (before ++ (asks_irq ∷ asks_io ∷ [])) (io 0 (io_grant 1 (io_asked (for 0 packet_io)) 0x300)) =
    record { earlier = before ++ (asks_irq ∷ []); maker = asks_io; later = []; are = refl; made = (refl, request_io, refl, io_made); lasts = λ e m. absurd m } in
    none-ne-some _ (subst (λ (F : Facts). F.io 0 ≡ some (io_grant 1 (io_asked (for 0 packet_io)) 0x300)) (says irq_ready.formed t.accepted) ((t.tells _).1 stands))

-- "Taking grants away at card out"
abbrev TakesAway : Keeper
TakesAway = AtCardOut λ s k b b'. (F : Facts) × Ours (card_out s k) b (image F) × (b' ≡ image (with_irq F s none))

card_left : {F : Facts} (w : WellFormed F) → Ours (card_out 0 Success) (image F) (image (with_card F 0 false))
card_left {F} w =
    record { code = Success; is = refl; permitted = inl (serving w (with_card F 0 false) (inr ((λ l. omega (arith, l, w.sockets_least)) then tt, (refl, refl)))) }

pub takes_away_wrong : CardOutKeeps TakesAway → ⊥
takes_away_wrong x =
    let w = card_formed irq_held irq_ready.formed 0 false (omega arith) in
    let v = irq_formed (with_card irq_held 0 false) w 0 none (λ g e. absurd (none-ne-some g e)) (λ t g g' d e. absurd (none-ne-some g e)) in
    let y = x 0 Success (image irq_held) (image (with_irq (with_card irq_held 0 false) 0 none)) (accepted irq_ready.formed) (
      with_card irq_held 0 false,
      card_left irq_ready.formed,
      refl,
    ) in
    let g : IrqGrant = irq_grant 1 (irq_asked (for 0 packet_irq)) 3 in
    none-ne-some g (subst (λ (F : Facts). F.irq 0 ≡ some g) (says v y.after)
    ((y.holds (irq 0 g) (λ e. omega (arith, ap kind e))).0 (subst (λ (F : Facts). F.irq 0 ≡ some g) (sym (says irq_ready.formed y.before)) refl)))

-- card out that begins anew
abbrev BeginsAnew : Keeper
BeginsAnew = AtCardOut λ s k b b'. b' ≡ image (fresh 2)

pub begins_anew_wrong : CardOutKeeps BeginsAnew → ⊥
begins_anew_wrong x =
    let y = x 0 Success (image idle) (image (fresh 2)) (accepted idle_ready.formed) refl in
    let v : Level = record { managed = true; reserved = false } in
    false≢true (ap (λ (z : Level). z.managed) (subst (λ (F : Facts). F.level 3 ≡ v) (says two_sockets y.after)
    ((y.holds (level 3 false) (λ e. omega (arith, ap kind e))).0 (subst (λ (F : Facts). F.level 3 ≡ v) (sym (says idle_ready.formed y.before)) refl))))

-- a question that takes the card out
abbrev Meddles : Keeper
Meddles = AtSharers λ l k c b b'. (F : Facts) × Ours (sharers l k c) b (image F) × (b' ≡ image (with_card F 0 false))

pub meddles_wrong : Frame Meddles → ⊥
meddles_wrong x =
    let w = card_formed idle idle_ready.formed 0 false (omega arith) in
    let question : Ours (sharers 3 Success 0) (image idle) (image idle) =
    (record { code = Success; count = 0; packs = refl; permitted = inl (accepted idle_ready.formed, inr ((omega arith) then tt, (refl, refl))) }, refl) in
    let y = x (sharers 3 Success 0) (image idle) (image (with_card idle 0 false)) (accepted idle_ready.formed) (idle, question, refl) in
    false≢true (subst (λ (F : Facts). F.card 0 ≡ true) (says w y.after)
    (((y.holds (the_card 0) (λ n. n)).facts (card 0) refl).0 (subst (λ (F : Facts). F.card 0 ≡ true) (sym (says idle_ready.formed y.before)) refl)))

-- a refusal that tidies: a client that is refused to leave loses its masks
abbrev Tidies : Keeper
Tidies = At deregister_client λ h p k a q b b'.
    (F : Facts) × Ours (call (service_number deregister_client) h p k a q) b (image F) × (b' ≡ image (with_clients F (with_mask h 0 none F.clients)))

abbrev tidied : Facts
tidied = with_clients busy (with_mask 1 0 none busy.clients)

tidied_formed : WellFormed tidied
tidied_formed = mask_formed busy 1 0 none busy_ready.formed (λ e q. absurd (none-ne-some e q))

abbrev leaving : Event
leaving = call (service_number deregister_client) 1 [] InUse 0 []

tidied_step : Tidies leaving (image busy) (image tidied)
tidied_step =
    inl (
      refl,
      (
        busy,
        serves busy_ready.formed deregister_client 1 [] (refused InUse [] busy) tt
            (inl (
              (omega arith) past (λ e. e busy_ready.live) past here (inl (record { seat = 0; range = _; held = refl; holder = refl })),
              as_kept InUse [] busy,
            )),
        refl,
      ),
    )

-- the client had its mask, and has it no more
had : Tells busy (mask 1 0 1)
had = (_, inl refl, refl, refl)

has_not : Tells tidied (mask 1 0 1) → ⊥
has_not t = none-ne-some 1 (sym (ap (λ (c : Client). c.mask 0) (listed_alone t.1)) ∙ t.3)

pub tidies_wrong : Frame Tidies → ⊥
tidies_wrong x =
    let y = x leaving (image busy) (image tidied) (accepted busy_ready.formed) tidied_step in
    has_not (subst (λ (F : Facts). Tells F (mask 1 0 1)) (says tidied_formed y.after)
    (((y.holds (the_mask 1 0) (λ n. omega (arith, ap number_of n.0))).facts (mask 1 0 1) refl).0
    (subst (λ (F : Facts). Tells F (mask 1 0 1)) (sym (says busy_ready.formed y.before)) had)))

pub tidies_breaks_bytes : RefusalKeeps Tidies → ⊥
tidies_breaks_bytes x =
    let kept = x leaving (image busy) (image tidied) tidied_step (λ e. omega (arith, ap number_of e)) in
    has_not (subst (λ (F : Facts). Tells F (mask 1 0 1))
    (says tidied_formed (record { facts = busy; formed = busy_ready.formed; is = sym kept.2 })) had)

-- "Writing AssignedIRQ before the last check": it is written, whatever the answer
abbrev WritesFirst : Keeper
WritesFirst = At request_irq λ h p k a q b b'. (r : List ℕ) × Ours (call (service_number request_irq) h p k a r) b b' × (q ≡ assigning p (level_asked_lem p))

pub writes_first_wrong : RefusalKeeps WritesFirst → ⊥
writes_first_wrong x =
    let step = serves two_sockets request_irq 1 (for 0 packet_irq) (refused BadHandle (for 0 packet_irq) (fresh 2)) tt
    (inl ((λ e. e refl) past here (λ l. l.listed), as_kept BadHandle (for 0 packet_irq) (fresh 2))) in
    let kept = x (call (service_number request_irq) 1 (for 0 packet_irq) BadHandle 0 (for 0 (irq_naming 3 3))) (image (fresh 2)) (image (fresh 2))
    (inl (refl, (for 0 packet_irq, step, refl))) (λ e. omega (arith, ap number_of e)) in
    omega (arith, ap (λ (q : List ℕ). byte q 4) kept.1)

-- RegisterClient does as it should, and answers another handle
abbrev Answers : (Facts → ℕ) → Keeper
Answers handle = At register_client λ h p k a q b b'.
    (F : Facts) × (b ≡ image F) × (c : ℕ) × Ours (call (service_number register_client) h p k c q) b b'
    × (((k ≡ Success) × (a ≡ handle F)) ⊎ ((k ≢ Success) × (a ≡ c)))

-- a handle taken for a slot: it is the first free place
abbrev Slots : Keeper
Slots = Answers λ F. length F.clients + 1

-- register, deregister, register
pub slots_wrong : NeverAgain Slots → ⊥
slots_wrong x =
    let left-formed = left one_client_lem.formed deregister_client 1 [] (done 1 [] no_client) tt cases.n10.1.permitted in
    let leaves = serves one_client_lem.formed deregister_client 1 [] (done 1 [] no_client) tt cases.n10.1.permitted in
    let again = serves left-formed register_client 0 client_packet (done 2 client_packet (entered no_client 4 0)) tt cases.n10.2.permitted in
    (x 2 [] (call (service_number deregister_client) 1 [] Success 1 [] ∷ registers 1 ∷ []) (registers 1) 1 (image (entered no_client 4 0))
    (from_two made_two _ _ (
      tt,
      image one_client,
      inl (refl, (fresh 2, refl, 1, registered, inl (refl, refl))),
      (
        tt,
        image no_client,
        inr (omega arith, leaves),
        (tt, image (entered no_client 4 0), inl (refl, (no_client, refl, 2, again, inl (refl, refl))), refl),
      ),
    ))
    (4, 0, (refl, register_client, refl, client_made))).1 (registers 1) (inr (inl refl)) (4, 0, (refl, register_client, refl, client_made))

-- handles from 0 on
abbrev FromZero : Keeper
FromZero = Answers λ F. F.issued

pub from_zero_wrong : NeverAgain FromZero → ⊥
from_zero_wrong x =
    (x 2 [] [] (registers 0) 0 (image one_client)
    (from_two made_two _ _ (tt, image one_client, inl (refl, (fresh 2, refl, 1, registered, inl (refl, refl))), refl))
    (4, 0, (refl, register_client, refl, client_made))).0 refl

-- "A made-up sharer count": always 1
abbrev MadeUp : Keeper
MadeUp = AtSharers λ l k c b b'. (k ≡ Success) × (c ≡ 1) × (b' ≡ b)

-- where one is counted, there is one
one_there : {P : ℕ → Type 0} → Number P 1 → (s : ℕ) × P s
one_there {P} n = along n.those (λ s i. (n.each s).0 i) n.count
  where
    along : (xs : List ℕ) → ((s : ℕ) → s ∈ xs → P s) → length xs ≡ 1 → (s : ℕ) × P s
    along [] each e = absurd (omega (arith, e))
    along (x ∷ xs) each e = (x, each x (inl refl))

pub made_up_wrong : SharersCounted MadeUp → ⊥
made_up_wrong x =
    let y = one_there (x 2 [] (image (fresh 2)) (image (fresh 2)) 3 1 (from_two made_two [] _ refl) (refl, refl, refl)).0 in
    stands_never _ y.1.1

-- the sharers of another level
abbrev OtherLevel : Keeper
OtherLevel = AtSharers λ l k c b b'. Ours (sharers 3 k c) b b'

pub other_level_wrong : SharersCounted OtherLevel → ⊥
other_level_wrong x =
    let question : Ours (sharers 3 Success 1) (image irq_held) (image irq_held) =
    (record { code = Success; count = 1; packs = refl; permitted = inl (accepted irq_ready.formed, inr ((omega arith) then tt, (refl, refl))) }, refl) in
    let y = one_there (x 2 (before ++ (asks_irq ∷ [])) (image irq_held) (image irq_held) 5 1
    (set_up OtherLevel (record { makes = λ n k F G w free s. s; calls = λ n h p k a q F G w free s. s; cards = λ t k F G w free s. s })
    (asks_irq ∷ []) (image irq_held) (tt, image irq_held, irq_step, refl)) question).0 in
    let t = exact 2 (before ++ (asks_irq ∷ [])) (image irq_held)
    (set_up Ours ours_begins (asks_irq ∷ []) (image irq_held) (tt, image irq_held, irq_step, refl)) in
    let told = subst (λ (F : Facts). F.irq y.0 ≡ some y.1.0) (says irq_ready.formed t.accepted) ((t.tells (irq y.0 y.1.0)).1 y.1.1) in
    ⊎_elim
    (λ k. omega (arith, ap (λ (g : IrqGrant). g.level) (some-injective _ _ (sym k.1 ∙ told)), y.1.2))
    (λ k. none-ne-some _ (sym k.1 ∙ told))
    (put_is idle.irq 0 (some (irq_grant 1 (irq_asked (for 0 packet_irq)) 3)) y.0)

-- any answer at all, and a handle that is left open
abbrev Anything : Keeper
Anything e b b' = b' ≡ b

pub anything_wrong : OneOutcome Anything → ⊥
anything_wrong x = omega (arith, ap (λ (e : Event). number_of (code_in e)) (x (card_in 0 Success) (card_in 0 BadSocket) [] [] [] refl refl refl).0)

abbrev AnyHandle : Keeper
AnyHandle = At register_client λ h p k a q b b'. (c : ℕ) × Ours (call (service_number register_client) h p k c q) b b'

pub any_handle_wrong : OneOutcome AnyHandle → ⊥
any_handle_wrong x =
    omega (
      arith,
      ap number_in
          (x (registers 1) (registers 2) (image (fresh 2)) (image one_client) (image one_client) refl (inl (refl, (1, registered)))
          (inl (refl, (1, registered)))).0,
    )

-- "One that refuses everything, or gives one code always"
abbrev RefusesAll : Keeper
RefusesAll e b b' = (code_in e ≡ GeneralFailure) × (b' ≡ b)

pub refuses_all_wrong : ExactCodes RefusesAll → ⊥
refuses_all_wrong x = omega (arith, ap number_of ((x (service register_client) Success).0 (inr (inr (inr (inr (inl refl)))))).6.0)

abbrev Succeeds : Keeper
Succeeds e b b' = (code_in e ≡ Success) × (b' ≡ b)

pub succeeds_wrong : ExactCodes Succeeds → ⊥
succeeds_wrong x = omega (arith, ap number_of ((x (service register_client) GeneralFailure).0 (inl refl)).6.0)
