-- Keepers that are wrong once: each does as this keeper, and permits one event more. What that event breaks is one part of a law over all entries.
-- Assumes nothing.
use Rattle.facts.proofs.Words.{◌≡◌, refl, subst, ◌⊎◌, inl, inr, ◌≢◌, List, [], ◌∷◌, ℕ, ◌+◌, ◌*◌, ◌<◌, arith, length, WellFormed}
use Rattle.facts.specs.{Code, Success, BadBase, BadIrq, GeneralFailure, InUse, number_of, Facts, ◌∈◌, Passed, Fits, NoLevelFits, assigned_irq}
use Rattle.facts.specs.{irq_ahead_checks, NotAllManaged, InTheWay, Candidate, NoCandidate, base_asked_lem, io_ahead_checks, record_size, records_in}
use Rattle.facts.specs.{records_added, Service, request_irq, request_io, service_number, Serves, all_levels, most_ranges, io_asked, irq_asked}
use Rattle.facts.proofs.{code_byte}
use Rattle.layout.specs.{image, Accepted}
use Rattle.history.specs.{Event, given, code_in, make_fresh, call, card_in, card_out, boot, sharers, Keeper, Ours, Fact, Makes, Tells, Between}
use Rattle.history.specs.{Asked, service, no_service, card_in_case, card_out_case, boot_list, sharers_of, fresh_table, codes_of, CanGive, OneOutcome}
use Rattle.history.specs.{AddsRecords, RefusalKeeps, Unformed, UnformedRefused, Stays, BootPlaces, RefusedExactly, ExactCodes, TheCodes}
use Rattle.history.specs.{fifteen}
use Rattle.history.proofs.Giving.{accepted}
use Rattle.history.proofs.Examples.{none_serves}
use Rattle.history.proofs.SampleRuns.{says}

-- besides what this keeper permits, the event e₀ may find the bytes b₀ and leave the bytes b₀'
abbrev pub Besides : Event → List ℕ → List ℕ → Keeper
Besides e₀ b₀ b₀' e b b' = Ours e b b' ⊎ ((e ≡ e₀) × (b ≡ b₀) × (b' ≡ b₀'))

pub besides : (e : Event) (b b' : List ℕ) → Besides e b b' e b b'
besides e b b' = inr (refl, refl, refl)

-- OneOutcome: another answer, or another table left, whatever the entry
pub other_outcome_wrong : (e e' : Event) (b b₁ b₂ : List ℕ) → given e ≡ given e' → Ours e b b₁ → ((e ≡ e') × (b₁ ≡ b₂) → ⊥)
    → OneOutcome (Besides e' b b₂) → ⊥
other_outcome_wrong e e' b b₁ b₂ same ours differ x = differ (x e e' b b₁ b₂ same (inl ours) (besides e' b b₂))

-- so at each entry: the same is given, and something that was answered is another, or the table is
abbrev OtherWrong : Event → Event → Type 0
OtherWrong e e' = (b b₁ b₂ : List ℕ) → Ours e b b₁ → ((e ≡ e') × (b₁ ≡ b₂) → ⊥) → OneOutcome (Besides e' b b₂) → ⊥

pub other_fresh_wrong : (n : ℕ) (k k' : Code) → OtherWrong (make_fresh n k) (make_fresh n k')
other_fresh_wrong n k k' b b₁ b₂ = other_outcome_wrong (make_fresh n k) (make_fresh n k') b b₁ b₂ refl

pub other_call_wrong : (n h : ℕ) (p : List ℕ) (k k' : Code) (a a' : ℕ) (q q' : List ℕ) → OtherWrong (call n h p k a q) (call n h p k' a' q')
other_call_wrong n h p k k' a a' q q' b b₁ b₂ = other_outcome_wrong (call n h p k a q) (call n h p k' a' q') b b₁ b₂ refl

pub other_card_in_wrong : (s : ℕ) (k k' : Code) → OtherWrong (card_in s k) (card_in s k')
other_card_in_wrong s k k' b b₁ b₂ = other_outcome_wrong (card_in s k) (card_in s k') b b₁ b₂ refl

pub other_card_out_wrong : (s : ℕ) (k k' : Code) → OtherWrong (card_out s k) (card_out s k')
other_card_out_wrong s k k' b b₁ b₂ = other_outcome_wrong (card_out s k) (card_out s k') b b₁ b₂ refl

pub other_boot_wrong : (r : List ℕ) (k k' : Code) (i i' : ℕ) → OtherWrong (boot r k i) (boot r k' i')
other_boot_wrong r k k' i i' b b₁ b₂ = other_outcome_wrong (boot r k i) (boot r k' i') b b₁ b₂ refl

pub other_sharers_wrong : (l : ℕ) (k k' : Code) (c c' : ℕ) → OtherWrong (sharers l k c) (sharers l k' c')
other_sharers_wrong l k k' c c' b b₁ b₂ = other_outcome_wrong (sharers l k c) (sharers l k' c') b b₁ b₂ refl

-- RefusalKeeps: a refusal that answers a handle or a count, rewrites the packet, or writes in the table
module _ (k : Code) (refused : k ≢ Success) (b b' : List ℕ) where
  pub handle_answered_wrong : (n h a : ℕ) (p q : List ℕ) → a ≢ 0 → RefusalKeeps (Besides (call n h p k a q) b b') → ⊥
  handle_answered_wrong n h a p q d x = d (x _ b b' (besides (call n h p k a q) b b') refused).0

  pub packet_rewritten_wrong : (n h a : ℕ) (p q : List ℕ) → q ≢ p → RefusalKeeps (Besides (call n h p k a q) b b') → ⊥
  packet_rewritten_wrong n h a p q d x = d (x _ b b' (besides (call n h p k a q) b b') refused).1

  pub call_writes_wrong : (n h a : ℕ) (p q : List ℕ) → b' ≢ b → RefusalKeeps (Besides (call n h p k a q) b b') → ⊥
  call_writes_wrong n h a p q d x = d (x _ b b' (besides (call n h p k a q) b b') refused).2

  pub card_in_writes_wrong : (s : ℕ) → b' ≢ b → RefusalKeeps (Besides (card_in s k) b b') → ⊥
  card_in_writes_wrong s d x = d (x _ b b' (besides (card_in s k) b b') refused)

  pub card_out_writes_wrong : (s : ℕ) → b' ≢ b → RefusalKeeps (Besides (card_out s k) b b') → ⊥
  card_out_writes_wrong s d x = d (x _ b b' (besides (card_out s k) b b') refused)

  pub fresh_writes_wrong : (n : ℕ) → b' ≢ b → RefusalKeeps (Besides (make_fresh n k) b b') → ⊥
  fresh_writes_wrong n d x = d (x _ b b' (besides (make_fresh n k) b b') refused)

  pub count_answered_wrong : (l c : ℕ) → c ≢ 0 → RefusalKeeps (Besides (sharers l k c) b b') → ⊥
  count_answered_wrong l c d x = d ((x _ b b' (besides (sharers l k c) b b')).0 refused)

-- a question that writes
pub question_writes_wrong : (l c : ℕ) (k : Code) (b b' : List ℕ) → b' ≢ b → RefusalKeeps (Besides (sharers l k c) b b') → ⊥
question_writes_wrong l c k b b' d x = d (x _ b b' (besides (sharers l k c) b b')).1

-- what holds between the tables of two sets holds between the sets
pub between : {F G : Facts} → WellFormed F → WellFormed G → (R : Facts → Facts → Type 0) → Between (image F) (image G) R → R F G
between {F} {G} w w' R x =
    subst (λ (H : Facts). R H G) (says w x.before) (subst (R x.before.facts) (says w' x.after) x.holds)

-- a boot list that writes in a table that isn't accepted, or leaves one that isn't
module _ (r : List ℕ) (k : Code) (i : ℕ) (b b' : List ℕ) where
  pub boot_writes_wrong : (Accepted b → ⊥) → b' ≢ b → RefusalKeeps (Besides (boot r k i) b b') → ⊥
  boot_writes_wrong none d x = d ((x _ b b' (besides (boot r k i) b b')).0 none)

  pub boot_leaves_none_wrong : Accepted b → (Accepted b' → ⊥) → RefusalKeeps (Besides (boot r k i) b b') → ⊥
  boot_leaves_none_wrong a none x = none ((x _ b b' (besides (boot r k i) b b')).1 a).after

-- one that drops a record, drops a fact that was there, adds one that none of its records makes, or changes a count
module _ (r : List ℕ) (k : Code) (i : ℕ) {F G : Facts} (w : WellFormed F) (w' : WellFormed G) where
  adds : RefusalKeeps (Besides (boot r k i) (image F) (image G)) → AddsRecords r k i F G
  adds x = between w w' (AddsRecords r k i) ((x _ (image F) (image G) (besides (boot r k i) (image F) (image G))).1 (accepted w))

  pub record_dropped_wrong : (f : Fact) → Makes (boot r k i) f → (Tells G f → ⊥) → RefusalKeeps (Besides (boot r k i) (image F) (image G)) → ⊥
  record_dropped_wrong f made gone x = gone (((adds x).facts f).1 (inl made))

  pub fact_dropped_wrong : (f : Fact) → Tells F f → (Tells G f → ⊥) → RefusalKeeps (Besides (boot r k i) (image F) (image G)) → ⊥
  fact_dropped_wrong f had gone x = gone (((adds x).facts f).1 (inr had))

  pub fact_added_wrong : (f : Fact) → (Makes (boot r k i) f ⊎ Tells F f → ⊥) → Tells G f → RefusalKeeps (Besides (boot r k i) (image F) (image G)) → ⊥
  fact_added_wrong f never told x = never (((adds x).facts f).0 told)

  pub boot_issues_wrong : G.issued ≢ F.issued → RefusalKeeps (Besides (boot r k i) (image F) (image G)) → ⊥
  boot_issues_wrong d x = d (adds x).issued

  pub boot_sockets_wrong : G.sockets ≢ F.sockets → RefusalKeeps (Besides (boot r k i) (image F) (image G)) → ⊥
  boot_sockets_wrong d x = d (adds x).sockets

-- UnformedRefused: another code on a table that isn't accepted, by any entry but cs_fresh; another place than 0
unformed_code : (e : Event) → ((n : ℕ) (k : Code) → e ≢ make_fresh n k) → Unformed e → code_in e ≡ GeneralFailure
unformed_code (make_fresh n k) other u = absurd (other n k refl)
unformed_code (call n h p k a q) other u = u
unformed_code (card_in s k) other u = u
unformed_code (card_out s k) other u = u
unformed_code (boot r k i) other u = u.0
unformed_code (sharers l k c) other u = u

pub unformed_served_wrong : (e : Event) (b b' : List ℕ) → ((n : ℕ) (k : Code) → e ≢ make_fresh n k) → (Accepted b → ⊥) → code_in e ≢ GeneralFailure
    → UnformedRefused (Besides e b b') → ⊥
unformed_served_wrong e b b' other none d x = d (unformed_code e other (x e b b' (besides e b b') none))

pub unformed_place_wrong : (r : List ℕ) (k : Code) (i : ℕ) (b b' : List ℕ) → (Accepted b → ⊥) → i ≢ 0 → UnformedRefused (Besides (boot r k i) b b') → ⊥
unformed_place_wrong r k i b b' none d x = d (x _ b b' (besides (boot r k i) b b') none).1

-- Stays: an accepted table lost
pub table_lost_wrong : (e : Event) (b b' : List ℕ) → Accepted b → (Accepted b' → ⊥) → Stays (Besides e b b') → ⊥
table_lost_wrong e b b' a none x = none (x e b b' (besides e b b') a)

-- BootPlaces: SUCCESS in the middle of the list; a place past its end, or past all that can be added; another table than that of the records before it
module _ (r : List ℕ) (i : ℕ) (b b' : List ℕ) where
  pub success_early_wrong : length r ≢ i * record_size → BootPlaces (Besides (boot r Success i) b b') → ⊥
  success_early_wrong d x = d (x.success r i b b' (besides (boot r Success i) b b'))

  pub place_past_end_wrong : (k : Code) → length r < i * record_size → BootPlaces (Besides (boot r k i) b b') → ⊥
  place_past_end_wrong k l x = omega (arith, l, x.within r k i b b' (besides (boot r k i) b b'))

  pub place_past_all_wrong : (k : Code) → all_levels + most_ranges < i → BootPlaces (Besides (boot r k i) b b') → ⊥
  place_past_all_wrong k l x = omega (arith, l, x.most r k i b b' (besides (boot r k i) b b'))

  pub other_records_wrong : (k : Code) (a : Accepted b) → b' ≢ image (records_added a.facts (records_in i r)) → BootPlaces (Besides (boot r k i) b b') → ⊥
  other_records_wrong k a d x = d (x.leaves r k i b b' (besides (boot r k i) b b') a)

-- RefusedExactly: RequestIRQ granted although no level fits, refused although one does, refused for that with another code, with BAD_IRQ although
-- one fits, granted a level that doesn't fit
module _ (h : ℕ) (p : List ℕ) (a : ℕ) (q b b' : List ℕ) (t : Accepted b) (passed : Passed (irq_ahead_checks t.facts h p [])) where
  abbrev AnswersIrq : Code → Keeper
  AnswersIrq k = Besides (call (service_number request_irq) h p k a q) b b'

  answers_irq : (k : Code) → AnswersIrq k (call (service_number request_irq) h p k a q) b b'
  answers_irq k = besides (call (service_number request_irq) h p k a q) b b'

  pub unfit_granted_wrong : NoLevelFits t.facts (irq_asked p) → RefusedExactly (AnswersIrq Success) → ⊥
  unfit_granted_wrong none x = (x.irq h p Success a q b b' t passed (answers_irq Success)).1 none refl

  pub fit_refused_wrong : (k : Code) → k ≢ Success → (NoLevelFits t.facts (irq_asked p) → ⊥) → RefusedExactly (AnswersIrq k) → ⊥
  fit_refused_wrong k refused fits x = fits ((x.irq h p k a q b b' t passed (answers_irq k)).0 refused)

  pub unfit_code_wrong : (k : Code) → k ≢ BadIrq → NoLevelFits t.facts (irq_asked p) → RefusedExactly (AnswersIrq k) → ⊥
  unfit_code_wrong k other none x = other ((x.irq_code h p k a q b b' t passed (answers_irq k)).1 none)

  pub fit_bad_irq_wrong : (NoLevelFits t.facts (irq_asked p) → ⊥) → RefusedExactly (AnswersIrq BadIrq) → ⊥
  fit_bad_irq_wrong fits x = fits ((x.irq_code h p BadIrq a q b b' t passed (answers_irq BadIrq)).0 refl)

  pub other_level_written_wrong : (Fits t.facts (irq_asked p) (assigned_irq q) → ⊥) → RefusedExactly (AnswersIrq Success) → ⊥
  other_level_written_wrong unfit x = unfit (x.irq_fits h p Success a q b b' t passed (answers_irq Success) refl)

module _ (h : ℕ) (p : List ℕ) (a : ℕ) (q b b' : List ℕ) (t : Accepted b) (passed : Passed (io_ahead_checks t.facts h p [])) where
  abbrev AnswersIo : Code → Keeper
  AnswersIo k = Besides (call (service_number request_io) h p k a q) b b'

  answers_io : (k : Code) → AnswersIo k (call (service_number request_io) h p k a q) b b'
  answers_io k = besides (call (service_number request_io) h p k a q) b b'

  -- RequestIO with a named base: granted although it isn't all managed or a grant is in the way, refused although neither is so; BAD_BASE although
  -- all is managed, another code where it isn't; IN_USE where it isn't all managed or nothing is in the way, another code where something is;
  -- another base written
  module _ (named : base_asked_lem p ≢ 0) where
    pub barred_granted_wrong : NotAllManaged t.facts (io_asked p) ⊎ InTheWay t.facts (io_asked p) → RefusedExactly (AnswersIo Success) → ⊥
    barred_granted_wrong bars x = (x.io_named h p Success a q b b' t passed (answers_io Success) named).1 bars refl

    pub clear_refused_wrong : (k : Code) → k ≢ Success → (NotAllManaged t.facts (io_asked p) ⊎ InTheWay t.facts (io_asked p) → ⊥) → RefusedExactly (AnswersIo k) → ⊥
    clear_refused_wrong k refused clear x = clear ((x.io_named h p k a q b b' t passed (answers_io k) named).0 refused)

    pub managed_bad_base_wrong : (NotAllManaged t.facts (io_asked p) → ⊥) → RefusedExactly (AnswersIo BadBase) → ⊥
    managed_bad_base_wrong managed x = managed ((x.io_base h p BadBase a q b b' t passed (answers_io BadBase) named).0 refl)

    pub unmanaged_code_wrong : (k : Code) → k ≢ BadBase → NotAllManaged t.facts (io_asked p) → RefusedExactly (AnswersIo k) → ⊥
    unmanaged_code_wrong k other unmanaged x = other ((x.io_base h p k a q b b' t passed (answers_io k) named).1 unmanaged)

    pub clear_in_use_wrong : ((NotAllManaged t.facts (io_asked p) → ⊥) × InTheWay t.facts (io_asked p) → ⊥) → RefusedExactly (AnswersIo InUse) → ⊥
    clear_in_use_wrong clear x = clear ((x.io_in_use h p InUse a q b b' t passed (answers_io InUse) named).0 refl)

    pub in_the_way_code_wrong : (k : Code) → k ≢ InUse → (NotAllManaged t.facts (io_asked p) → ⊥) → InTheWay t.facts (io_asked p) → RefusedExactly (AnswersIo k) → ⊥
    in_the_way_code_wrong k other managed way x = other ((x.io_in_use h p k a q b b' t passed (answers_io k) named).1 (managed, way))

    pub other_base_written_wrong : (k : Code) → base_asked_lem q ≢ base_asked_lem p → RefusedExactly (AnswersIo k) → ⊥
    other_base_written_wrong k d x = d (x.io_kept h p k a q b b' t passed (answers_io k) named)

  -- with base 0: granted although there is no candidate, refused although there is one, refused for that with another code, with IN_USE although
  -- there is one, granted a base that is none
  module _ (zero : base_asked_lem p ≡ 0) where
    pub none_granted_wrong : NoCandidate t.facts (io_asked p) → RefusedExactly (AnswersIo Success) → ⊥
    none_granted_wrong none x = (x.io_chosen h p Success a q b b' t passed (answers_io Success) zero).1 none refl

    pub candidate_refused_wrong : (k : Code) → k ≢ Success → (NoCandidate t.facts (io_asked p) → ⊥) → RefusedExactly (AnswersIo k) → ⊥
    candidate_refused_wrong k refused some x = some ((x.io_chosen h p k a q b b' t passed (answers_io k) zero).0 refused)

    pub none_code_wrong : (k : Code) → k ≢ InUse → NoCandidate t.facts (io_asked p) → RefusedExactly (AnswersIo k) → ⊥
    none_code_wrong k other none x = other ((x.io_chosen_code h p k a q b b' t passed (answers_io k) zero).1 none)

    pub candidate_in_use_wrong : (NoCandidate t.facts (io_asked p) → ⊥) → RefusedExactly (AnswersIo InUse) → ⊥
    candidate_in_use_wrong some x = some ((x.io_chosen_code h p InUse a q b b' t passed (answers_io InUse) zero).0 refl)

    pub no_candidate_written_wrong : (Candidate t.facts (io_asked p) (base_asked_lem q) → ⊥) → RefusedExactly (AnswersIo Success) → ⊥
    no_candidate_written_wrong none x = none (x.io_fits h p Success a q b b' t passed (answers_io Success) zero refl)

-- ExactCodes: a code more than those listed, at any service or host call
abbrev answer : Asked → Code → Event
answer (service v) k = call (service_number v) 0 [] k 0 []
answer no_service k = call 0 0 [] k 0 []
answer card_in_case k = card_in 0 k
answer card_out_case k = card_out 0 k
answer boot_list k = boot [] k 0
answer sharers_of k = sharers 0 k 0
answer fresh_table k = make_fresh 0 k

gives_more : (x : Asked) (k : Code) → CanGive (Besides (answer x k) [] []) x k
gives_more (service v) k = (0, 0, [], [], [], [], besides (answer (service v) k) [] [])
gives_more no_service k = (0, 0, 0, [], [], [], [], none_serves, besides (answer no_service k) [] [])
gives_more card_in_case k = (0, [], [], besides (answer card_in_case k) [] [])
gives_more card_out_case k = (0, [], [], besides (answer card_out_case k) [] [])
gives_more boot_list k = ([], [], [], 0, besides (answer boot_list k) [] [])
gives_more sharers_of k = (0, 0, [], [], besides (answer sharers_of k) [] [])
gives_more fresh_table k = (0, [], [], besides (answer fresh_table k) [] [])

pub code_more_wrong : (x : Asked) (k : Code) → (k ∈ codes_of x → ⊥) → ExactCodes (Besides (answer x k) [] []) → ⊥
code_more_wrong x k unlisted y = unlisted ((y x k).1 (gives_more x k))

-- and one that is never given there
pub data Of : Asked → Event → Type 0 where
  of_service : {v : Service} {h a : ℕ} {p q : List ℕ} {k : Code} → Of (service v) (call (service_number v) h p k a q)
  of_none : {n h a : ℕ} {p q : List ℕ} {k : Code} → (Serves n → ⊥) → Of no_service (call n h p k a q)
  of_card_in : {s : ℕ} {k : Code} → Of card_in_case (card_in s k)
  of_card_out : {s : ℕ} {k : Code} → Of card_out_case (card_out s k)
  of_boot : {r : List ℕ} {k : Code} {i : ℕ} → Of boot_list (boot r k i)
  of_sharers : {l c : ℕ} {k : Code} → Of sharers_of (sharers l k c)
  of_fresh : {n : ℕ} {k : Code} → Of fresh_table (make_fresh n k)

abbrev Never : Asked → Code → Keeper
Never x k e b b' = Ours e b b' × (Of x e → code_in e ≢ k)

never_gives : (x : Asked) (k : Code) → CanGive (Never x k) x k → ⊥
never_gives (service v) k (h, a, p, q, b, b', (ours, never)) = never of_service refl
never_gives no_service k (n, h, a, p, q, b, b', none, (ours, never)) = never (of_none none) refl
never_gives card_in_case k (s, b, b', (ours, never)) = never of_card_in refl
never_gives card_out_case k (s, b, b', (ours, never)) = never of_card_out refl
never_gives boot_list k (r, b, b', i, (ours, never)) = never of_boot refl
never_gives sharers_of k (l, c, b, b', (ours, never)) = never of_sharers refl
never_gives fresh_table k (n, b, b', (ours, never)) = never of_fresh refl

pub code_missing_wrong : (x : Asked) (k : Code) → k ∈ codes_of x → ExactCodes (Never x k) → ⊥
code_missing_wrong x k listed y = never_gives x k ((y x k).0 listed)

-- TheCodes: a code's number left out; a sixteenth number
pub number_left_out_wrong : (numbers : List ℕ) (k : Code) → (number_of k ∈ numbers → ⊥) → TheCodes numbers → ⊥
number_left_out_wrong numbers k unlisted x = unlisted ((x (number_of k)).1 (k, refl))

pub sixteenth_wrong : TheCodes (0x100 ∷ fifteen) → ⊥
sixteenth_wrong x = let y = (x 0x100).0 (inl refl) in omega (arith, y.1, code_byte y.0)
