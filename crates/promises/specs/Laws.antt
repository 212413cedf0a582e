-- The laws of the public entries: a record for each. Assumes nothing.
use Rattle.std.specs.Prelude.{◌≡◌, ◌≢◌, List, Bool, ℕ, ◌+◌, ◌*◌, ◌/◌, ◌%◌, ◌^◌, ◌≤◌, length}
use Rattle.facts.specs.declared.Code.{Code}
use Rattle.facts.specs.declared.Code.TheVariants.{Success, GeneralFailure}
use Rattle.facts.specs.Codes.{number_of}
use Rattle.facts.specs.Table
use Rattle.facts.specs.Table.{fresh}
use Rattle.layout.specs.Layout.{image}
use Rattle.layout.specs.Sound.{Accepted}
use Rattle.facts.specs.Boot.{record_size, records_in, records_added}
use Rattle.promises.specs.Entries.{CallAnswers, CardAnswers, SharersAnswers, FreshAnswers, BootAnswers}

-- the number answered can be taken apart again: its low 16 bits are the code, the rest is the handle or the count
abbrev pub TakenApart : ℕ → Code → ℕ → Type 0
TakenApart r code number = (r % 65536 ≡ number_of code) × (r / 65536 ≡ number)

-- cs_call
pub record CallLaws (service handle : ℕ) (b p : List ℕ) : Type 0 where
  -- "any two permitted outcomes coincide"
  pub one : (b₁ b₂ p₁ p₂ : List ℕ) (r₁ r₂ : ℕ) → CallAnswers service handle b b₁ p p₁ r₁ → CallAnswers service handle b b₂ p p₂ r₂
      → (r₁ ≡ r₂) × (p₁ ≡ p₂) × (b₁ ≡ b₂)
  -- "a refusal answers 0"; "Every code but 00 leaves table and packet unchanged"
  pub refusal : (b₁ p₁ : List ℕ) (r : ℕ) (x : CallAnswers service handle b b₁ p p₁ r) → x.code ≢ Success → (x.answered ≡ 0) × (p₁ ≡ p) × (b₁ ≡ b)
  -- "Any other bytes, or another length, are refused with GENERAL_FAILURE."
  pub unformed : (b₁ p₁ : List ℕ) (r : ℕ) (x : CallAnswers service handle b b₁ p p₁ r) → (Accepted b → ⊥) → x.code ≡ GeneralFailure
  -- an accepted table stays accepted
  pub stays : (b₁ p₁ : List ℕ) (r : ℕ) → Accepted b → CallAnswers service handle b b₁ p p₁ r → Accepted b₁
  pub taken_apart : (b₁ p₁ : List ℕ) (r : ℕ) (x : CallAnswers service handle b b₁ p p₁ r) → TakenApart r x.code x.answered

-- cs_card_in and cs_card_out
pub record CardLaws (present : Bool) (socket : ℕ) (b : List ℕ) : Type 0 where
  pub one : (b₁ b₂ : List ℕ) (r₁ r₂ : ℕ) → CardAnswers present socket b b₁ r₁ → CardAnswers present socket b b₂ r₂ → (r₁ ≡ r₂) × (b₁ ≡ b₂)
  pub refusal : (b₁ : List ℕ) (r : ℕ) (x : CardAnswers present socket b b₁ r) → x.code ≢ Success → b₁ ≡ b
  pub unformed : (b₁ : List ℕ) (r : ℕ) (x : CardAnswers present socket b b₁ r) → (Accepted b → ⊥) → x.code ≡ GeneralFailure
  pub stays : (b₁ : List ℕ) (r : ℕ) → Accepted b → CardAnswers present socket b b₁ r → Accepted b₁

-- cs_sharers
pub record SharersLaws (level : ℕ) (b : List ℕ) : Type 0 where
  pub one : (r₁ r₂ : ℕ) → SharersAnswers level b r₁ → SharersAnswers level b r₂ → r₁ ≡ r₂
  -- "a refusal's count is 0"; "never over 8"
  pub refusal : (r : ℕ) (x : SharersAnswers level b r) → x.code ≢ Success → x.count ≡ 0
  pub unformed : (r : ℕ) (x : SharersAnswers level b r) → (Accepted b → ⊥) → x.code ≡ GeneralFailure
  pub most : (r : ℕ) (x : SharersAnswers level b r) → x.count ≤ Table.most_sockets
  pub taken_apart : (r : ℕ) (x : SharersAnswers level b r) → TakenApart r x.code x.count

-- cs_fresh
pub record FreshLaws (sockets : ℕ) (b : List ℕ) : Type 0 where
  pub one : (b₁ b₂ : List ℕ) (r₁ r₂ : ℕ) → FreshAnswers sockets b b₁ r₁ → FreshAnswers sockets b b₂ r₂ → (r₁ ≡ r₂) × (b₁ ≡ b₂)
  pub refusal : (b₁ : List ℕ) (r : ℕ) → FreshAnswers sockets b b₁ r → r ≢ number_of Success → b₁ ≡ b
  -- a table made fresh is accepted, and says what a fresh table does
  pub accepted : (b₁ : List ℕ) (r : ℕ) → FreshAnswers sockets b b₁ r → r ≡ number_of Success → (a : Accepted b₁) × (a.facts ≡ fresh sockets)

-- cs_boot
pub record BootLaws (records b : List ℕ) : Type 0 where
  pub one : (b₁ b₂ : List ℕ) (r₁ r₂ : ℕ) → BootAnswers records b b₁ r₁ → BootAnswers records b b₂ r₂ → (r₁ ≡ r₂) × (b₁ ≡ b₂)
  -- "earlier ones stay": the table left is that of the records before the place, added in order, and nothing else
  pub leaves : (b₁ : List ℕ) (r : ℕ) (x : BootAnswers records b b₁ r) (a : Accepted b)
      → b₁ ≡ image (records_added a.facts (records_in x.place records))
  pub unformed : (b₁ : List ℕ) (r : ℕ) (x : BootAnswers records b b₁ r) → (Accepted b → ⊥) → (x.code ≡ GeneralFailure) × (x.place ≡ 0) × (b₁ ≡ b)
  pub stays : (b₁ : List ℕ) (r : ℕ) → Accepted b → BootAnswers records b b₁ r → Accepted b₁
  -- "Success answers the list's length in records"
  pub success : (b₁ : List ℕ) (r : ℕ) (x : BootAnswers records b b₁ r) → x.code ≡ Success → length records ≡ x.place * record_size
  -- no place is past the list's end, nor past the levels and ranges that there can be
  pub within : (b₁ : List ℕ) (r : ℕ) (x : BootAnswers records b b₁ r) → x.place * record_size ≤ length records
  pub most : (b₁ : List ℕ) (r : ℕ) (x : BootAnswers records b b₁ r) → x.place ≤ Table.all_levels + Table.most_ranges
  -- the low 32 bits of the number answered are the code, the rest is the place
  pub taken_apart : (b₁ : List ℕ) (r : ℕ) (x : BootAnswers records b b₁ r) → (r % 2 ^ 32 ≡ number_of x.code) × (r / 2 ^ 32 ≡ x.place)

-- all of them, for every input
pub record Laws : Type 0 where
  pub call : (service handle : ℕ) (b p : List ℕ) → CallLaws service handle b p
  pub card : (present : Bool) (socket : ℕ) (b : List ℕ) → CardLaws present socket b
  pub sharers : (level : ℕ) (b : List ℕ) → SharersLaws level b
  pub fresh : (sockets : ℕ) (b : List ℕ) → FreshLaws sockets b
  pub boot : (records b : List ℕ) → BootLaws records b
