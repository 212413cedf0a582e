-- Runs for the wrong keepers: what happens before a first grant, on tables of the examples. Assumes nothing.
use Rattle.facts.proofs.Words.{◌≡◌, refl, inl, inr, List, [], ◌∷◌, ◌++◌, true, false≢true, some, none-ne-some, ℕ, ◌<◌, arith, length}
use Rattle.facts.proofs.Words.{WellFormed}
use Rattle.facts.specs.{Code, Success, Facts, IrqGrant, fresh, most_clients, most_issued, Register, next_handle, registered as entered, with_card, Wide}
use Rattle.facts.specs.{Passed, level_added, add_level_checks, add_range_checks, register_client, adjust_resource_info, request_irq, request_io, service_number}
use Rattle.facts.proofs.{card_formed, level_added_formed}
use Rattle.layout.specs.{image, Accepted}
use Rattle.layout.proofs.{image_size}
use Rattle.facts_cases.specs.{done, one_client, client_packet}
use Rattle.facts_cases.proofs.{cases, as_left, ◌then◌, ◌nor◌}
use Rattle.history.specs.{Event, make_fresh, call, card_in, Keeper, Ours, Runs, FromFresh}
use Rattle.history.proofs.Answered.{accepted_one}
use Rattle.history.proofs.Giving.{accepted, serving, serves, left, level_named, range_named}
use Rattle.history.proofs.OnSockets.{Ready, ready, two_sockets, one_client_lem, for}
use Rattle.history.proofs.ExampleTables.{idle, irq_held, io_held, idle_ready, irq_ready, packet_irq, packet_io, irq_naming, irq_granted, io_granted}

-- from a fresh table of two sockets
pub made_two : Ours (make_fresh 2 Success) (image (fresh 2)) (image (fresh 2))
made_two = inl (record { size = image_size (fresh 2); least = omega arith; most = omega arith }, refl, refl)

pub from_two : {K : Keeper} → K (make_fresh 2 Success) (image (fresh 2)) (image (fresh 2)) → (es : List Event) (b : List ℕ)
    → Runs K (image (fresh 2)) es b → FromFresh K 2 es b
from_two made es b runs = record { old = image (fresh 2); start = image (fresh 2); made = made; runs = runs }

-- what a table says is its set of facts
pub says : {F : Facts} → WellFormed F → (a : Accepted (image F)) → a.facts ≡ F
says w a = accepted_one a (accepted w)

-- a client registers, cards come in, and the level 3 and all ports are added
abbrev pub registers : ℕ → Event
registers h = call (service_number register_client) 0 client_packet Success h client_packet

abbrev add_level : List ℕ
add_level = 1 ∷ 2 ∷ 0 ∷ 3 ∷ []

abbrev ports_added : List ℕ
ports_added = 0 ∷ 0 ∷ 0 ∷ 0 ∷ 0 ∷ 0 ∷ 1 ∷ 0 ∷ 0 ∷ 16 ∷ []

abbrev add_range : List ℕ
add_range = 1 ∷ 1 ∷ ports_added

abbrev adjusts : List ℕ → Event
adjusts p = call (service_number adjust_resource_info) 1 p Success 1 p

abbrev pub before : List Event
before = registers 1 ∷ card_in 0 Success ∷ card_in 1 Success ∷ adjusts add_level ∷ adjusts add_range ∷ []

-- no socket has an IRQ grant
abbrev pub Ungranted : Facts → Type 0
Ungranted F = (s : ℕ) (g : IrqGrant) → F.irq s ≡ some g → ⊥

ungranted : (s : ℕ) (g : IrqGrant) → (fresh 2).irq s ≡ some g → ⊥
ungranted s g e = none-ne-some g e

-- the tables between, and the steps
abbrev one_card_facts : Facts
one_card_facts = with_card one_client 0 true

abbrev carded : Facts
carded = with_card one_card_facts 1 true

abbrev levelled : Facts
levelled = level_added carded 3 0

one_card_formed : WellFormed one_card_facts
one_card_formed = card_formed one_client one_client_lem.formed 0 true (omega arith)

carded_formed : WellFormed carded
carded_formed = card_formed one_card_facts one_card_formed 1 true (omega arith)

level_free : Passed (add_level_checks carded 3 0)
level_free = (λ e. e (inl refl)) then (omega arith) then false≢true then tt

levelled_formed : WellFormed levelled
levelled_formed = level_added_formed carded carded_formed 3 0 level_free

pub registered : Ours (registers 1) (image (fresh 2)) (image one_client)
registered = serves two_sockets register_client 0 client_packet (done 1 client_packet one_client) tt cases.n10.0.permitted

card_in_case : (s : ℕ) (F : Facts) → WellFormed F → s < F.sockets → Ours (card_in s Success) (image F) (image (with_card F s true))
card_in_case s F w l =
    record { code = Success; is = refl; permitted = inl (serving w (with_card F s true) (inr ((λ e. omega (arith, e, l)) then tt, (refl, refl)))) }

level_in : Ours (adjusts add_level) (image carded) (image levelled)
level_in =
    serves carded_formed adjust_resource_info 1 add_level (done 1 add_level levelled) tt
    (inr (level_named 1 0 3 (omega arith), inl (refl, inl (refl, inr (level_free, (refl, as_left _))))))

range_in_lem : Ours (adjusts add_range) (image levelled) (image idle)
range_in_lem =
    serves levelled_formed adjust_resource_info 1 add_range (done 1 add_range idle) tt
    (inr (range_named ports_added refl, inr (refl, Wide, refl, inl (refl, inr (range_free, (refl, as_left _))))))
  where
    range_free : Passed (add_range_checks levelled 0 0x10000 0 16)
    range_free =
        ((λ e. e (inl refl)) nor omega arith) then (omega arith nor omega arith) then (omega arith) then (λ e. e.2.listed) then (omega arith) then tt

-- what is asked for: the level 3, and the ports 300 to 307
abbrev pub asks_irq : Event
asks_irq = call (service_number request_irq) 1 (for 0 packet_irq) Success 1 (for 0 (irq_naming 3 3))

abbrev pub asks_io : Event
asks_io = call (service_number request_io) 1 (for 0 packet_io) Success 1 (for 0 packet_io)

pub irq_step : Ours asks_irq (image idle) (image irq_held)
irq_step = serves idle_ready.formed request_irq 1 (for 0 packet_irq) (done 1 (for 0 (irq_naming 3 3)) irq_held) tt irq_granted

pub io_step : Ours asks_io (image irq_held) (image io_held)
io_step = serves irq_ready.formed request_io 1 (for 0 packet_io) (done 1 (for 0 packet_io) io_held) tt io_granted

-- a client more registers, where there is room
pub register_permitted : (F : Facts) → length F.clients < most_clients → F.issued < most_issued
    → Register F 0 client_packet (done (next_handle F) client_packet (entered F 4 0))
register_permitted F room issued =
    inr (
      (λ e. e refl)
          then (λ e. e (record { bits = omega arith; type = inr (inr refl) }))
          then (λ e. e (omega arith))
          then ((λ e. omega (arith, e, room)) nor (λ e. omega (arith, e, issued)))
          then tt,
      (refl, as_left _),
    )

-- a second one
abbrev pub pair : Facts
pair = entered idle 4 0

pub second_registered : Ours (registers 2) (image idle) (image pair)
second_registered =
    serves idle_ready.formed register_client 0 client_packet (done 2 client_packet pair) tt (register_permitted idle (omega arith) (omega arith))

pub pair_formed : WellFormed pair
pair_formed = left idle_ready.formed register_client 0 client_packet (done 2 client_packet pair) tt (register_permitted idle (omega arith) (omega arith))

pub pair_ready : Ready pair
pair_ready = ready pair_formed _ (inl refl) refl

-- a keeper that does the same at cs_fresh, at calls and at card in, where there is no IRQ grant
abbrev Same : Keeper → Event → Type 0
Same K e = (F G : Facts) → WellFormed F → Ungranted F → Ours e (image F) (image G) → K e (image F) (image G)

pub record BeginsAlike (K : Keeper) : Type 0 where
  pub makes : (n : ℕ) (k : Code) → Same K (make_fresh n k)
  pub calls : (n h : ℕ) (p : List ℕ) (k : Code) (a : ℕ) (q : List ℕ) → Same K (call n h p k a q)
  pub cards : (s : ℕ) (k : Code) → Same K (card_in s k)

-- comes to the table of the examples
pub set_up : (K : Keeper) → BeginsAlike K → (es : List Event) (b : List ℕ) → Runs K (image idle) es b → FromFresh K 2 (before ++ es) b
set_up K begins es b rest =
    let range-step : Runs K (image levelled) (adjusts add_range ∷ es) b =
    (tt, image idle, begins.calls _ _ _ _ _ _ levelled idle levelled_formed ungranted range_in_lem, rest) in
    let level-step : Runs K (image carded) (adjusts add_level ∷ adjusts add_range ∷ es) b =
    (tt, image levelled, begins.calls _ _ _ _ _ _ carded levelled carded_formed ungranted level_in, range-step) in
    let card-step : Runs K (image one_card_facts) (card_in 1 Success ∷ adjusts add_level ∷ adjusts add_range ∷ es) b =
    (tt, image carded, begins.cards _ _ one_card_facts carded one_card_formed ungranted (card_in_case 1 one_card_facts one_card_formed (omega arith)), level-step) in
    let first-card : Runs K (image one_client) (card_in 0 Success ∷ card_in 1 Success ∷ adjusts add_level ∷ adjusts add_range ∷ es) b =
    (tt, image one_card_facts, begins.cards _ _ one_client one_card_facts one_client_lem.formed ungranted (card_in_case 0 one_client one_client_lem.formed (omega arith)), card-step) in
    from_two (begins.makes 2 Success (fresh 2) (fresh 2) two_sockets ungranted made_two) (before ++ es) b
    (tt, image one_client, begins.calls _ _ _ _ _ _ (fresh 2) one_client two_sockets ungranted registered, first-card)

-- and, once the second client is registered, goes on from there
pub set_up_two : (K : Keeper) → BeginsAlike K → (es : List Event) (b : List ℕ) → Runs K (image pair) es b → FromFresh K 2 (before ++ (registers 2 ∷ es)) b
set_up_two K begins es b rest =
    set_up K begins (registers 2 ∷ es) b
    (tt, image pair, begins.calls _ _ _ _ _ _ idle pair idle_ready.formed ungranted second_registered, rest)

pub ours_begins : BeginsAlike Ours
ours_begins = record { makes = λ n k F G w free s. s; calls = λ n h p k a q F G w free s. s; cards = λ t k F G w free s. s }
