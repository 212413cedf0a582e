-- The laws of the rules: what is proved of every service and of the host's calls. Assumes nothing.
use Rattle.std.specs.Prelude.{◌≡◌, ◌⊎◌, ◌≢◌, ◌↔◌, List, [], ◌∷◌, Bool, ℕ, ◌+◌, ◌*◌, ◌/◌, ◌≤◌, ◌<◌, length, take, drop}
use Rattle.facts.specs.declared.Code.{Code}
use Rattle.facts.specs.declared.Code.TheVariants.{Success, BadBase, BadIrq, BadArgLength, InUse}
use Rattle.facts.specs.declared.Record.{Record}
use Rattle.facts.specs.Table
use Rattle.facts.specs.Table.{Facts, fresh}
use Rattle.facts.specs.WellFormed.{WellFormed}
use Rattle.facts.specs.Packets.{Bytes}
use Rattle.facts.specs.Checks.{Outcome, Kept, Passed}
use Rattle.facts.specs.Sockets.{CardOutcome, CardTo}
use Rattle.facts.specs.Irq.{Count, Sharers, RequestIrq, irq_asked, Fits, NoLevelFits, LevelTaken, irq_ahead_checks}
use Rattle.facts.specs.Io.{RequestIo, io_asked, NotAllManaged, InTheWay, NoCandidate, base_asked_lem, io_ahead_checks}
use Rattle.facts.specs.Boot.{Booted, Boot, record_size, record_of, records_in, records_of, end_of, records_added}
use Rattle.facts.specs.Services.{Call}

-- "any two permitted outcomes coincide"
abbrev pub Coincide : {O : Type 0} → (O → Type 0) → Type 0
Coincide {O} R = (o o' : O) → R o → R o' → o ≡ o'

-- "a refusal answers 0"; "Every code but 00 leaves table and packet unchanged"
abbrev pub RefusalKeeps : Facts → List ℕ → (Outcome → Type 0) → Type 0
RefusalKeeps F p R = (o : Outcome) → R o → o.code ≢ Success → Kept F p o

-- of every call, whatever its number: a service's, or none's
pub record ServiceLaws : Type 0 where
  pub one_outcome : (number : ℕ) (F : Facts) (h : ℕ) (p : List ℕ) → WellFormed F → Coincide (Call number F h p)
  pub refusal_keeps : (number : ℕ) (F : Facts) (h : ℕ) (p : List ℕ) → RefusalKeeps F p (Call number F h p)
  -- a packet's numbers are bytes: RequestIO alone needs to know it, whose count a grant keeps in one byte
  pub stays_formed : (number : ℕ) (F : Facts) (h : ℕ) (p : List ℕ) (o : Outcome) → WellFormed F → Bytes p → Call number F h p o
      → WellFormed o.facts

-- of the host's calls
pub record HostLaws : Type 0 where
  pub fresh_formed : (n : ℕ) → 1 ≤ n → n ≤ Table.most_sockets → WellFormed (fresh n)
  pub one_card : (present : Bool) (F : Facts) (s : ℕ) → Coincide (CardTo present F s)
  pub card_refusal : (present : Bool) (F : Facts) (s : ℕ) (o : CardOutcome) → CardTo present F s o → o.code ≢ Success → o.facts ≡ F
  pub card_stays : (present : Bool) (F : Facts) (s : ℕ) (o : CardOutcome) → WellFormed F → CardTo present F s o → WellFormed o.facts
  pub one_count : (F : Facts) (l : ℕ) → Coincide (Sharers F l)
  -- "a refusal's count is 0"; "never over 8"
  pub count_refusal : (F : Facts) (l : ℕ) (o : Count) → Sharers F l o → o.code ≢ Success → o.count ≡ 0
  pub count_most : (F : Facts) (l : ℕ) (o : Count) → WellFormed F → Sharers F l o → o.count ≤ Table.most_sockets
  -- the boot list, whichever way it is lent: e is the code given where its records end
  pub one_boot : (e : Code) (F : Facts) (rs : List Record) → Coincide (Boot e F rs 0)
  -- "earlier ones stay": what is left are the records before the place answered, added in order, and nothing else
  pub boot_leaves : (e : Code) (F : Facts) (rs : List Record) (o : Booted) → Boot e F rs 0 o → o.facts ≡ records_added F (take o.place rs)
  -- "Success answers the list's length in records"
  pub boot_success : (e : Code) (F : Facts) (rs : List Record) (o : Booted) → Boot e F rs 0 o → o.code ≡ Success
      → (e ≡ Success) × (o.place ≡ length rs)
  pub boot_within : (e : Code) (F : Facts) (rs : List Record) (o : Booted) → Boot e F rs 0 o → o.place ≤ length rs
  pub boot_stays : (e : Code) (F : Facts) (rs : List Record) (o : Booted) → WellFormed F → Boot e F rs 0 o → WellFormed o.facts
  -- no more than all levels and ranges can be added, so no place is past that
  pub boot_most : (e : Code) (F : Facts) (rs : List Record) (o : Booted) → WellFormed F → Boot e F rs 0 o
      → o.place ≤ Table.all_levels + Table.most_ranges

-- of the bytes of a boot list: which records they are, and the code at their end
pub record BytesLaws : Type 0 where
  -- "bytes too few for a record at the end are refused at its place with BAD_ARG_LENGTH"
  pub few : (b : List ℕ) → 1 ≤ length b → length b < record_size → (records_of b ≡ []) × (end_of b ≡ BadArgLength)
  -- where there are enough, the record at their head comes first, and what follows it is a list again
  pub more : (b : List ℕ) → record_size ≤ length b
      → (records_of b ≡ record_of b ∷ records_of (drop record_size b)) × (end_of b ≡ end_of (drop record_size b))
  -- as many records as the bytes have room for
  pub counted : (b : List ℕ) → length (records_of b) ≡ length b / record_size
  -- bytes that are whole records are that list, and only those end with SUCCESS
  pub same_list : (b : List ℕ) (n : ℕ) → length b ≡ n * record_size → (records_of b ≡ records_in n b) × (end_of b ≡ Success)
  pub whole : (b : List ℕ) → end_of b ≡ Success → length b ≡ length (records_of b) * record_size
  -- the records before a place are the first ones of the bytes
  pub before : (b : List ℕ) (n : ℕ) → n * record_size ≤ length b → take n (records_of b) ≡ records_in n b

-- demand 2: "Where the earlier checks pass, an I/O or IRQ request is refused exactly when no resource fits."
pub record ExactlyWhen : Type 0 where
  -- RequestIRQ answers BAD_IRQ exactly if no level fits, and is refused for no other reason
  pub irq : (F : Facts) (h : ℕ) (p : List ℕ) (o : Outcome) → Passed (irq_ahead_checks F h p []) → RequestIrq F h p o
      → (o.code ≡ BadIrq) ↔ NoLevelFits F (irq_asked p)
  pub irq_refused : (F : Facts) (h : ℕ) (p : List ℕ) (o : Outcome) → Passed (irq_ahead_checks F h p []) → RequestIrq F h p o
      → (o.code ≢ Success) ↔ NoLevelFits F (irq_asked p)
  -- and the level that it takes is one that fits
  pub irq_taken : (F : Facts) (p : List ℕ) (l : ℕ) → WellFormed F → LevelTaken F (irq_asked p) l → Fits F (irq_asked p) l
  -- RequestIO with a named base answers BAD_BASE exactly if it isn't all managed, and is refused exactly for that or if it meets what it may not
  pub io_base : (F : Facts) (h : ℕ) (p : List ℕ) (o : Outcome) → Passed (io_ahead_checks F h p []) → base_asked_lem p ≢ 0 → RequestIo F h p o
      → (o.code ≡ BadBase) ↔ NotAllManaged F (io_asked p)
  pub io_named : (F : Facts) (h : ℕ) (p : List ℕ) (o : Outcome) → Passed (io_ahead_checks F h p []) → base_asked_lem p ≢ 0 → RequestIo F h p o
      → (o.code ≢ Success) ↔ (NotAllManaged F (io_asked p) ⊎ InTheWay F (io_asked p))
  -- what is left of a named base is IN_USE: all is managed, and a grant is in the way
  pub io_in_use : (F : Facts) (h : ℕ) (p : List ℕ) (o : Outcome) → Passed (io_ahead_checks F h p []) → base_asked_lem p ≢ 0 → RequestIo F h p o
      → (o.code ≡ InUse) ↔ ((NotAllManaged F (io_asked p) → ⊥) × InTheWay F (io_asked p))
  -- RequestIO with base 0 answers IN_USE exactly if there is no candidate, and is refused for no other reason
  pub io_chosen : (F : Facts) (h : ℕ) (p : List ℕ) (o : Outcome) → Passed (io_ahead_checks F h p []) → base_asked_lem p ≡ 0 → RequestIo F h p o
      → (o.code ≡ InUse) ↔ NoCandidate F (io_asked p)
  pub io_chosen_refused : (F : Facts) (h : ℕ) (p : List ℕ) (o : Outcome) → Passed (io_ahead_checks F h p []) → base_asked_lem p ≡ 0 → RequestIo F h p o
      → (o.code ≢ Success) ↔ NoCandidate F (io_asked p)
