-- What each public entry may answer and leave, for every table, number, handle and packet. Assumes nothing.
use Rattle.std.specs.Prelude.{◌≡◌, ◌⊎◌, List, Bool, ℕ, ◌≤◌, length}
use Rattle.facts.specs.declared.Code.{Code}
use Rattle.facts.specs.declared.Code.TheVariants.{Success, GeneralFailure}
use Rattle.facts.specs.Codes.{number_of}
use Rattle.facts.specs.Table
use Rattle.facts.specs.Table.{Facts, fresh}
use Rattle.facts.specs.Packets.{Bytes}
use Rattle.facts.specs.Irq.{Sharers}
use Rattle.facts.specs.Boot.{BootBytes, stopped}
use Rattle.facts.specs.Services.{Call}
use Rattle.facts.specs.Sockets.{CardTo}
use Rattle.layout.specs.Layout
use Rattle.layout.specs.Layout.{image}
use Rattle.layout.specs.Sound.{Accepted}
use Rattle.layout.specs.Served.{Served, ServedBy, TableRefused}
use Rattle.facts.specs.Codes.{packed, placed}

-- cs_call: the service rules, and leaves the table b' and the packet p'; or the table b is refused
abbrev pub CallPermitted : ℕ → ℕ → List ℕ → List ℕ → List ℕ → List ℕ → Code → ℕ → Type 0
CallPermitted service handle b b' p p' code answered =
    ServedBy (λ (F : Facts). Call service F handle p) b b' p' code answered
    ⊎ (TableRefused b b' code × (answered ≡ 0) × (p' ≡ p))

pub record CallAnswers (service handle : ℕ) (b b' p p' : List ℕ) (r : ℕ) : Type 0 where
  pub code : Code
  pub answered : ℕ
  pub packs : r ≡ packed code answered
  -- what is lent as a packet are bytes
  pub bytes : Bytes p
  pub permitted : CallPermitted service handle b b' p p' code answered

-- cs_card_in and cs_card_out: a code
abbrev pub CardPermitted : Bool → ℕ → List ℕ → List ℕ → Code → Type 0
CardPermitted present socket b b' code =
    Served (λ (F G : Facts). CardTo present F socket (record { code = code; facts = G })) b b'
    ⊎ TableRefused b b' code

pub record CardAnswers (present : Bool) (socket : ℕ) (b b' : List ℕ) (r : ℕ) : Type 0 where
  pub code : Code
  pub is : r ≡ number_of code
  pub permitted : CardPermitted present socket b b' code

-- cs_sharers: a code and a count; the table is only read
abbrev pub SharersPermitted : ℕ → List ℕ → Code → ℕ → Type 0
SharersPermitted level b code count =
    ((a : Accepted b) × Sharers a.facts level (record { code = code; count = count }))
    ⊎ (TableRefused b b code × (count ≡ 0))

pub record SharersAnswers (level : ℕ) (b : List ℕ) (r : ℕ) : Type 0 where
  pub code : Code
  pub count : ℕ
  pub packs : r ≡ packed code count
  pub permitted : SharersPermitted level b code count

-- "Fresh: a count of 1 to 8 and a buffer of 8,192 bytes, else GENERAL_FAILURE and no byte changed. .. The old bytes don't matter."
pub record FreshAllowed (sockets : ℕ) (b : List ℕ) : Type 0 where
  pub size : length b ≡ Layout.table_size
  pub least : 1 ≤ sockets
  pub most : sockets ≤ Table.most_sockets

-- cs_fresh: a code
abbrev pub FreshAnswers : ℕ → List ℕ → List ℕ → ℕ → Type 0
FreshAnswers sockets b b' r =
    (FreshAllowed sockets b × (r ≡ number_of Success) × (b' ≡ image (fresh sockets)))
    ⊎ ((FreshAllowed sockets b → ⊥) × (r ≡ number_of GeneralFailure) × (b' ≡ b))

-- cs_boot: a code and a place. "If the table is not well formed: place 0, GENERAL_FAILURE."
abbrev pub BootPermitted : List ℕ → List ℕ → List ℕ → Code → ℕ → Type 0
BootPermitted records b b' code place =
    Served (λ (F G : Facts). BootBytes F records (stopped place code G)) b b'
    ⊎ (TableRefused b b' code × (place ≡ 0))

pub record BootAnswers (records b b' : List ℕ) (r : ℕ) : Type 0 where
  pub code : Code
  pub place : ℕ
  pub packs : r ≡ placed code place
  pub permitted : BootPermitted records b b' code place
