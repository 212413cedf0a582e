-- The laws over all entries, of a keeper. Assumes nothing.
use Rattle.std.specs.Prelude.{◌≡◌, ◌⊎◌, ◌↔◌, ◌≢◌, List, [], ◌∷◌, ℕ, ◌+◌, ◌*◌, ◌≤◌, length}
use Rattle.facts.specs.declared.Code.{Code}
use Rattle.facts.specs.declared.Code.TheVariants.{Success, BadBase, BadIrq, GeneralFailure, InUse}
use Rattle.facts.specs.Codes.{number_of}
use Rattle.facts.specs.Table
use Rattle.facts.specs.Table.{Facts}
use Rattle.facts.specs.Sets.{◌∈◌}
use Rattle.facts.specs.Checks.{Check, Passed}
use Rattle.facts.specs.Irq.{irq_asked, Fits, NoLevelFits, assigned_irq, irq_ahead_checks}
use Rattle.facts.specs.Io.{io_asked, NotAllManaged, InTheWay, Candidate, NoCandidate, base_asked_lem, io_ahead_checks}
use Rattle.facts.specs.Boot.{record_size, records_in, records_added}
use Rattle.facts.specs.Services.{Service, request_irq, request_io, service_number}
use Rattle.layout.specs.Layout.{image}
use Rattle.layout.specs.Sound.{Accepted}
use Rattle.history.specs.Events.{Event, Keeper, given, make_fresh, call, card_in, card_out, boot, sharers}
use Rattle.history.specs.Stands.{Fact, Makes}
use Rattle.history.specs.Tables.{Tells, Between}
use Rattle.history.specs.Codes.{Asked, codes_of, CanGive}

-- "any two permitted outcomes coincide": for the same table and the same given there is one event, and one table left
abbrev pub OneOutcome : Keeper → Type 0
OneOutcome K = (e e' : Event) (b b₁ b₂ : List ℕ) → given e ≡ given e' → K e b b₁ → K e' b b₂ → (e ≡ e') × (b₁ ≡ b₂)

-- a boot list leaves the facts as they were, and those of its records before the place that it answers
pub record AddsRecords (r : List ℕ) (k : Code) (i : ℕ) (F G : Facts) : Type 0 where
  pub facts : (f : Fact) → Tells G f ↔ (Makes (boot r k i) f ⊎ Tells F f)
  pub issued : G.issued ≡ F.issued
  pub sockets : G.sockets ≡ F.sockets

-- "a refusal answers 0"; "Every code but 00 leaves table and packet unchanged, save the boot list's earlier records."
abbrev pub Keeps : Event → List ℕ → List ℕ → Type 0
Keeps (make_fresh n k) b b' = k ≢ Success → b' ≡ b
Keeps (call n h p k a q) b b' = k ≢ Success → (a ≡ 0) × (q ≡ p) × (b' ≡ b)
Keeps (card_in s k) b b' = k ≢ Success → b' ≡ b
Keeps (card_out s k) b b' = k ≢ Success → b' ≡ b
Keeps (boot r k i) b b' = ((Accepted b → ⊥) → b' ≡ b) × (Accepted b → Between b b' (AddsRecords r k i))
Keeps (sharers l k c) b b' = (k ≢ Success → c ≡ 0) × (b' ≡ b)

abbrev pub RefusalKeeps : Keeper → Type 0
RefusalKeeps K = (e : Event) (b b' : List ℕ) → K e b b' → Keeps e b b'

-- "Any other bytes, or another length, are refused with GENERAL_FAILURE."; of a boot list, "If the table is not well formed: place 0,
-- GENERAL_FAILURE."; of cs_fresh, "The old bytes don't matter."
abbrev pub Unformed : Event → Type 0
Unformed (make_fresh n k) = Unit {0}
Unformed (call n h p k a q) = k ≡ GeneralFailure
Unformed (card_in s k) = k ≡ GeneralFailure
Unformed (card_out s k) = k ≡ GeneralFailure
Unformed (boot r k i) = (k ≡ GeneralFailure) × (i ≡ 0)
Unformed (sharers l k c) = k ≡ GeneralFailure

abbrev pub UnformedRefused : Keeper → Type 0
UnformedRefused K = (e : Event) (b b' : List ℕ) → K e b b' → (Accepted b → ⊥) → Unformed e

-- an accepted table is accepted after any event
abbrev pub Stays : Keeper → Type 0
Stays K = (e : Event) (b b' : List ℕ) → K e b b' → Accepted b → Accepted b'

-- the place that a boot list answers
pub record BootPlaces (K : Keeper) : Type 0 where
  -- "Success answers the list's length in records"
  pub success : (r : List ℕ) (i : ℕ) (b b' : List ℕ) → K (boot r Success i) b b' → length r ≡ i * record_size
  -- no place is past the list's end, nor past the levels and ranges that there can be
  pub within : (r : List ℕ) (k : Code) (i : ℕ) (b b' : List ℕ) → K (boot r k i) b b' → i * record_size ≤ length r
  pub most : (r : List ℕ) (k : Code) (i : ℕ) (b b' : List ℕ) → K (boot r k i) b b' → i ≤ Table.all_levels + Table.most_ranges
  -- "earlier ones stay": the table left is that of the records before the place, added in order
  pub leaves : (r : List ℕ) (k : Code) (i : ℕ) (b b' : List ℕ) → K (boot r k i) b b' → (a : Accepted b)
      → b' ≡ image (records_added a.facts (records_in i r))

-- a call of the service v on a table that says F: where the checks ahead pass, the code k and the packet q answered are as R says
abbrev pub WherePassed : Keeper → Service → (Facts → ℕ → List ℕ → List Check) → (Facts → List ℕ → Code → List ℕ → Type 0) → Type 0
WherePassed K v ahead R =
    (h : ℕ) (p : List ℕ) (k : Code) (a : ℕ) (q b b' : List ℕ) (t : Accepted b) → Passed (ahead t.facts h p)
    → K (call (service_number v) h p k a q) b b' → R t.facts p k q

abbrev pub IrqAnswers : Keeper → (Facts → List ℕ → Code → List ℕ → Type 0) → Type 0
IrqAnswers K = WherePassed K request_irq (λ F h p. irq_ahead_checks F h p [])

abbrev pub IoAnswers : Keeper → (Facts → List ℕ → Code → List ℕ → Type 0) → Type 0
IoAnswers K = WherePassed K request_io (λ F h p. io_ahead_checks F h p [])

-- demand 2: "Where the earlier checks pass, an I/O or IRQ request is refused exactly when no resource fits."
pub record RefusedExactly (K : Keeper) : Type 0 where
  -- RequestIRQ is refused exactly if no level fits, and then with BAD_IRQ; the level that it writes fits
  pub irq : IrqAnswers K (λ F p k q. (k ≢ Success) ↔ NoLevelFits F (irq_asked p))
  pub irq_code : IrqAnswers K (λ F p k q. (k ≡ BadIrq) ↔ NoLevelFits F (irq_asked p))
  pub irq_fits : IrqAnswers K (λ F p k q. k ≡ Success → Fits F (irq_asked p) (assigned_irq q))
  -- RequestIO with a named base is refused exactly if not all is managed, with BAD_BASE, or else if a grant is in the way, with IN_USE; the base
  -- that it writes is the one named
  pub io_named : IoAnswers K (λ F p k q. base_asked_lem p ≢ 0 → (k ≢ Success) ↔ (NotAllManaged F (io_asked p) ⊎ InTheWay F (io_asked p)))
  pub io_base : IoAnswers K (λ F p k q. base_asked_lem p ≢ 0 → (k ≡ BadBase) ↔ NotAllManaged F (io_asked p))
  pub io_in_use : IoAnswers K (λ F p k q. base_asked_lem p ≢ 0 → (k ≡ InUse) ↔ ((NotAllManaged F (io_asked p) → ⊥) × InTheWay F (io_asked p)))
  pub io_kept : IoAnswers K (λ F p k q. base_asked_lem p ≢ 0 → base_asked_lem q ≡ base_asked_lem p)
  -- RequestIO with base 0 is refused exactly if there is no candidate, and then with IN_USE; the base that it writes is a candidate
  pub io_chosen : IoAnswers K (λ F p k q. base_asked_lem p ≡ 0 → (k ≢ Success) ↔ NoCandidate F (io_asked p))
  pub io_chosen_code : IoAnswers K (λ F p k q. base_asked_lem p ≡ 0 → (k ≡ InUse) ↔ NoCandidate F (io_asked p))
  pub io_fits : IoAnswers K (λ F p k q. base_asked_lem p ≡ 0 → k ≡ Success → Candidate F (io_asked p) (base_asked_lem q))

-- for each service and host call, exactly the codes that it can give
abbrev pub ExactCodes : Keeper → Type 0
ExactCodes K = (x : Asked) (k : Code) → (k ∈ codes_of x) ↔ CanGive K x k

-- the codes are those with these numbers: no other, and none of them is left out
abbrev pub TheCodes : List ℕ → Type 0
TheCodes numbers = (n : ℕ) → (n ∈ numbers) ↔ ((k : Code) × (n ≡ number_of k))

-- document 01's fifteen
abbrev pub fifteen : List ℕ
fifteen = 0x00 ∷ 0x02 ∷ 0x03 ∷ 0x06 ∷ 0x0A ∷ 0x0B ∷ 0x14 ∷ 0x15 ∷ 0x19 ∷ 0x1B ∷ 0x1C ∷ 0x1E ∷ 0x1F ∷ 0x20 ∷ 0x21 ∷ []

-- all of them
pub record EntryLaws (K : Keeper) : Type 0 where
  pub one_outcome : OneOutcome K
  pub refusal_keeps : RefusalKeeps K
  pub unformed_refused : UnformedRefused K
  pub stays : Stays K
  pub boot_places : BootPlaces K
  pub refused_exactly : RefusedExactly K
  pub exact_codes : ExactCodes K
  pub the_fifteen : TheCodes fifteen
