-- Events, each one call at the boundary with all that was given and all that was answered, and runs of them. Assumes nothing.
use Rattle.std.specs.Prelude.{◌≡◌, ◌≢◌, List, [], ◌∷◌, true, false, ℕ}
use Rattle.facts.specs.declared.Code.{Code}
use Rattle.facts.specs.declared.Code.TheVariants.{Success}
use Rattle.facts.specs.Codes.{number_of, packed, placed}
use Rattle.promises.specs.Entries.{CallAnswers, CardAnswers, SharersAnswers, FreshAnswers, BootAnswers}
use Rattle.history.specs.Given as entry
use Rattle.history.specs.Given.{Given}

pub data Event : Type 0 where
  -- a table was to be made, with so many sockets
  make_fresh : (sockets : ℕ) (code : Code) → Event
  -- a service was called, and left the packet given as another
  call : (number handle : ℕ) (packet : List ℕ) (code : Code) (answered : ℕ) (left : List ℕ) → Event
  card_in card_out : (socket : ℕ) (code : Code) → Event
  -- a boot list of these bytes
  boot : (records : List ℕ) (code : Code) (place : ℕ) → Event
  -- the number of sharers of a level was asked for
  sharers : (level : ℕ) (code : Code) (count : ℕ) → Event

-- what was given
abbrev pub given : Event → Given
given (make_fresh n k) = entry.make_fresh n
given (call n h p k a q) = entry.call n h p
given (card_in s k) = entry.card_in s
given (card_out s k) = entry.card_out s
given (boot r k i) = entry.boot r
given (sharers l k c) = entry.sharers l

-- the code that was answered
abbrev pub code_in : Event → Code
code_in (make_fresh n k) = k
code_in (call n h p k a q) = k
code_in (card_in s k) = k
code_in (card_out s k) = k
code_in (boot r k i) = k
code_in (sharers l k c) = k

-- the number that C is answered
abbrev pub number_in : Event → ℕ
number_in (make_fresh n k) = number_of k
number_in (call n h p k a q) = packed k a
number_in (card_in s k) = number_of k
number_in (card_out s k) = number_of k
number_in (boot r k i) = placed k i
number_in (sharers l k c) = packed k c

-- a keeper is what it permits: which event may find a table's bytes b and leave the bytes b'
abbrev pub Keeper : Type 1
Keeper = Event → List ℕ → List ℕ → Type 0

-- this one permits what the promises of its public entries do
abbrev pub Ours : Keeper
Ours (make_fresh n k) b b' = FreshAnswers n b b' (number_in (make_fresh n k))
Ours (call n h p k a q) b b' = CallAnswers n h b b' p q (number_in (call n h p k a q))
Ours (card_in s k) b b' = CardAnswers true s b b' (number_in (card_in s k))
Ours (card_out s k) b b' = CardAnswers false s b b' (number_in (card_out s k))
Ours (boot r k i) b b' = BootAnswers r b b' (number_in (boot r k i))
Ours (sharers l k c) b b' = SharersAnswers l b (number_in (sharers l k c)) × (b' ≡ b)

-- C was answered the number r, and the table's bytes b became b': that is the event e, and the number is the event's
abbrev pub Came : ℕ → List ℕ → List ℕ → Event → Type 0
Came r b b' e = (r ≡ number_in e) × Ours e b b'

-- a call of each entry, as an event of what was given to it
abbrev pub FreshCame : ℕ → List ℕ → List ℕ → ℕ → Type 0
FreshCame n b b' r = (k : Code) × Came r b b' (make_fresh n k)

abbrev pub CallCame : ℕ → ℕ → List ℕ → List ℕ → List ℕ → List ℕ → ℕ → Type 0
CallCame n h p q b b' r = (k : Code) × (a : ℕ) × Came r b b' (call n h p k a q)

abbrev pub CardInCame : ℕ → List ℕ → List ℕ → ℕ → Type 0
CardInCame s b b' r = (k : Code) × Came r b b' (card_in s k)

abbrev pub CardOutCame : ℕ → List ℕ → List ℕ → ℕ → Type 0
CardOutCame s b b' r = (k : Code) × Came r b b' (card_out s k)

abbrev pub BootCame : List ℕ → List ℕ → List ℕ → ℕ → Type 0
BootCame rs b b' r = (k : Code) × (i : ℕ) × Came r b b' (boot rs k i)

abbrev pub SharersCame : ℕ → List ℕ → ℕ → Type 0
SharersCame l b r = (k : Code) × (c : ℕ) × Came r b b (sharers l k c)

-- whatever an entry answers and leaves as it promises is such an event
pub record Entries : Type 0 where
  pub of_fresh : (n r : ℕ) (b b' : List ℕ) → FreshAnswers n b b' r → FreshCame n b b' r
  pub of_call : (n h r : ℕ) (p q b b' : List ℕ) → CallAnswers n h b b' p q r → CallCame n h p q b b' r
  pub of_card_in : (s r : ℕ) (b b' : List ℕ) → CardAnswers true s b b' r → CardInCame s b b' r
  pub of_card_out : (s r : ℕ) (b b' : List ℕ) → CardAnswers false s b b' r → CardOutCame s b b' r
  pub of_boot : (r : ℕ) (rs b b' : List ℕ) → BootAnswers rs b b' r → BootCame rs b b' r
  pub of_sharers : (l r : ℕ) (b : List ℕ) → SharersAnswers l b r → SharersCame l b r

-- a table's life goes on: only a cs_fresh that succeeds begins another one
abbrev pub GoesOn : Event → Type 0
GoesOn (make_fresh n k) = k ≢ Success
GoesOn (call n h p k a q) = Unit {0}
GoesOn (card_in s k) = Unit {0}
GoesOn (card_out s k) = Unit {0}
GoesOn (boot r k i) = Unit {0}
GoesOn (sharers l k c) = Unit {0}

-- demand 3: "after any run of calls": the events es, first to last, from the bytes b to the bytes b'
abbrev pub Runs : Keeper → List ℕ → List Event → List ℕ → Type 0
Runs K b [] b' = b' ≡ b
Runs K b (e ∷ es) b' = GoesOn e × (m : List ℕ) × K e b m × Runs K m es b'

-- demand 3: "From a fresh table": a cs_fresh that answered SUCCESS, and then the events es
pub record FromFresh (K : Keeper) (sockets : ℕ) (es : List Event) (b : List ℕ) : Type 0 where
  pub old : List ℕ
  pub start : List ℕ
  pub made : K (make_fresh sockets Success) old start
  pub runs : Runs K start es b
