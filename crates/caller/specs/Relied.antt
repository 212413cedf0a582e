-- What a caller of this keeper may rely on, in one page: of each call, and after each run of calls. Assumes nothing.
use Rattle.std.specs.Prelude.{◌≡◌, ◌⊎◌, ◌↔◌, ◌≢◌, List, [], ◌∷◌, ◌++◌, true, ℕ, ◌+◌, ◌*◌, ◌≤◌, length}
use Rattle.facts.specs.declared.Code.{Code}
use Rattle.facts.specs.declared.Code.TheVariants.{Success, BadBase, BadIrq, InUse}
use Rattle.facts.specs.Codes.{number_of}
use Rattle.facts.specs.Table
use Rattle.facts.specs.Table.{Facts, IoGrant, IrqGrant}
use Rattle.facts.specs.Sets.{◌∈◌}
use Rattle.facts.specs.Ports.{Meet}
use Rattle.facts.specs.Levels.{Together}
use Rattle.facts.specs.Checks.{Passed}
use Rattle.facts.specs.Irq.{irq_asked, Fits, NoLevelFits, assigned_irq, irq_ahead_checks}
use Rattle.facts.specs.Io.{io_asked, NotAllManaged, InTheWay, Candidate, NoCandidate, base_asked_lem, io_ahead_checks}
use Rattle.facts.specs.Boot.{record_size, records_in, records_added}
use Rattle.facts.specs.Services.{request_irq, request_io, service_number}
use Rattle.layout.specs.Layout.{image}
use Rattle.layout.specs.Sound.{Accepted}
use Rattle.history.specs.Events.{Event, given, code_in, call, card_out, boot, sharers, Ours, Runs, FromFresh}
use Rattle.history.specs.Stands.{Fact, card, io, irq, Stands, StandsSince, Registers, registrations}
use Rattle.history.specs.Tables.{Tells, TellsExactly, Between}
use Rattle.history.specs.Names.{Framed}
use Rattle.history.specs.Demand.{Number}
use Rattle.history.specs.Codes.{Asked, codes_of, CanGive}
use Rattle.history.specs.Laws.{Keeps, Unformed, fifteen}

-- of any call: e is what was given and answered, b are the table's bytes before it and b' those after it
pub record OfCall (e : Event) (b b' : List ℕ) : Type 0 where
  -- nothing else could have been answered or left
  pub one : (e' : Event) (b'' : List ℕ) → given e ≡ given e' → Ours e' b b'' → (e ≡ e') × (b' ≡ b'')
  -- its code is one of the fifteen; a refusal answers 0 and keeps every byte, but for a boot list's earlier records
  pub code : number_of (code_in e) ∈ fifteen
  pub keeps : Keeps e b b'
  -- bytes that are no table are refused as such, and a table stays one
  pub unformed : (Accepted b → ⊥) → Unformed e
  pub stays : Accepted b → Accepted b'
  -- every fact that the call's rule doesn't name reads as before
  pub frame : Accepted b → Between b b' (Framed e)

-- of cs_boot
pub record OfBoot (r : List ℕ) (k : Code) (i : ℕ) (b b' : List ℕ) : Type 0 where
  pub success : k ≡ Success → length r ≡ i * record_size
  pub within : i * record_size ≤ length r
  pub most : i ≤ Table.all_levels + Table.most_ranges
  pub leaves : (a : Accepted b) → b' ≡ image (records_added a.facts (records_in i r))

-- of RequestIRQ, where the checks ahead pass: F is what the table says
pub record OfIrq (F : Facts) (p : List ℕ) (k : Code) (q : List ℕ) : Type 0 where
  pub refused : (k ≢ Success) ↔ NoLevelFits F (irq_asked p)
  pub bad_irq : (k ≡ BadIrq) ↔ NoLevelFits F (irq_asked p)
  pub fits : k ≡ Success → Fits F (irq_asked p) (assigned_irq q)

-- of RequestIO, where the checks ahead pass, with a named base and with base 0
pub record OfIoNamed (F : Facts) (p : List ℕ) (k : Code) (q : List ℕ) : Type 0 where
  pub refused : (k ≢ Success) ↔ (NotAllManaged F (io_asked p) ⊎ InTheWay F (io_asked p))
  pub bad_base : (k ≡ BadBase) ↔ NotAllManaged F (io_asked p)
  pub in_use : (k ≡ InUse) ↔ ((NotAllManaged F (io_asked p) → ⊥) × InTheWay F (io_asked p))
  pub kept : base_asked_lem q ≡ base_asked_lem p

pub record OfIoChosen (F : Facts) (p : List ℕ) (k : Code) (q : List ℕ) : Type 0 where
  pub refused : (k ≢ Success) ↔ NoCandidate F (io_asked p)
  pub in_use : (k ≡ InUse) ↔ NoCandidate F (io_asked p)
  pub fits : k ≡ Success → Candidate F (io_asked p) (base_asked_lem q)

-- after a run: es is the log, first call to last, and b are the table's bytes
pub record AfterRun (sockets : ℕ) (es : List Event) (b : List ℕ) : Type 0 where
  -- the table says exactly what one works out from the log, and no other bytes do
  pub exact : TellsExactly b sockets (registrations es) (Stands es)
  pub alone : (b' : List ℕ) → TellsExactly b' sockets (registrations es) (Stands es) → b ≡ b'
  -- a handle that was registered isn't 0, and is never registered again
  pub handles : (earlier later : List Event) (e : Event) (h : ℕ) → es ≡ earlier ++ (e ∷ later) → Registers e h
      → (h ≢ 0) × ((e' : Event) → e' ∈ later → Registers e' h → ⊥)
  -- the number of sharers, if it is asked for now, is that of the sockets that have a grant on the level, and at most eight
  pub counted : (l c : ℕ) (b' : List ℕ) → Ours (sharers l Success c) b b'
      → Number (λ (s : ℕ). (g : IrqGrant) × Stands es (irq s g) × (g.level ≡ l)) c × (c ≤ Table.most_sockets)
  -- a socket has one grant of a kind, and two grants meet only as both asked to share
  pub one_io : (s : ℕ) (g g' : IoGrant) → Stands es (io s g) → Stands es (io s g') → g ≡ g'
  pub one_irq : (s : ℕ) (g g' : IrqGrant) → Stands es (irq s g) → Stands es (irq s g') → g ≡ g'
  pub ports : (s s' : ℕ) (g g' : IoGrant) → Stands es (io s g) → Stands es (io s' g') → io s g ≢ io s' g' → Meet g.ports g'.ports
      → (g.shared ≡ true) × (g'.shared ≡ true)
  pub levels : (s s' : ℕ) (g g' : IrqGrant) → Stands es (irq s g) → Stands es (irq s' g') → irq s g ≢ irq s' g' → g.level ≡ g'.level
      → Together g.manner g'.manner

pub record Relied : Type 0 where
  pub of_call : (e : Event) (b b' : List ℕ) → Ours e b b' → OfCall e b b'
  pub of_boot : (r : List ℕ) (k : Code) (i : ℕ) (b b' : List ℕ) → Ours (boot r k i) b b' → OfBoot r k i b b'
  pub of_irq : (h : ℕ) (p : List ℕ) (k : Code) (a : ℕ) (q b b' : List ℕ) (t : Accepted b) → Passed (irq_ahead_checks t.facts h p [])
      → Ours (call (service_number request_irq) h p k a q) b b' → OfIrq t.facts p k q
  pub of_io_named : (h : ℕ) (p : List ℕ) (k : Code) (a : ℕ) (q b b' : List ℕ) (t : Accepted b) → Passed (io_ahead_checks t.facts h p [])
      → Ours (call (service_number request_io) h p k a q) b b' → base_asked_lem p ≢ 0 → OfIoNamed t.facts p k q
  pub of_io_chosen : (h : ℕ) (p : List ℕ) (k : Code) (a : ℕ) (q b b' : List ℕ) (t : Accepted b) → Passed (io_ahead_checks t.facts h p [])
      → Ours (call (service_number request_io) h p k a q) b b' → base_asked_lem p ≡ 0 → OfIoChosen t.facts p k q
  -- card out takes no grant or mask away
  pub of_card_out : (s : ℕ) (k : Code) (b b' : List ℕ) → Accepted b → Ours (card_out s k) b b'
      → Between b b' (λ (F G : Facts). (f : Fact) → f ≢ card s → Tells F f ↔ Tells G f)
  -- for each service and host call, exactly the codes that it can give
  pub codes : (x : Asked) (k : Code) → (k ∈ codes_of x) ↔ CanGive Ours x k
  pub after_run : (sockets : ℕ) (es : List Event) (b : List ℕ) → FromFresh Ours sockets es b → AfterRun sockets es b
  -- from a saved table that is accepted, what it said and no call gave back stands too
  pub since : (b b' : List ℕ) (es : List Event) (a : Accepted b) → Runs Ours b es b'
      → TellsExactly b' a.facts.sockets (a.facts.issued + registrations es) (StandsSince (Tells a.facts) es)
