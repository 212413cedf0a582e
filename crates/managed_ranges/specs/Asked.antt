-- What is asked of managed ranges: the answers of the checks, said of numbers and of the bytes, and what comes next. Assumes nothing.
use Rattle.std.specs.Prelude.{◌≡◌, ◌⊎◌, ◌≢◌, List, [], ◌∷◌, ◌++◌, Bool, ℕ, ◌+◌, ◌≤◌, ◌<◌, Option, Some, None, Result, Ok, Err}
use Rattle.facts.specs.declared.Code.{Code}
use Rattle.facts.specs.declared.Code.TheVariants.{BadAttribute, BadBase, InUse}
use Rattle.facts.specs.Table
use Rattle.facts.specs.Table.{Facts, Range}
use Rattle.facts.specs.Sets.{◌∈◌}
use Rattle.facts.specs.Choice.{Lowest}
use Rattle.facts.specs.Ports.{Within}
use Rattle.facts.specs.Checks.{◌gives◌, FirstGiven}
use Rattle.facts.specs.Resources.{add_range_checks, remove_range_checks, range_checks, range_added, range_removed, with_ranges, inserted}
use Rattle.facts.specs.Resources.{put_checks, take_checks}
use Rattle.layout.specs.Layout
use Rattle.layout.specs.Layout.{mark, two, four}
use Rattle.layout.specs.Reading.{ranges_in, range_place}
use Rattle.layout.specs.Sound.{Accepted, ManagedIn, range_base, range_count}
use Rattle.layout.specs.Changed.{PutIn}
use Rattle.managed_changes.specs.Changing.{Changes}

abbrev pub AddsRange : {T : Type 0} → ℕ → ℕ → ℕ → ℕ → List ℕ → List ℕ → Result T Code → Type 0
AddsRange base count attributes lines =
    Changes (λ (F : Facts). add_range_checks F base count attributes lines) (λ (F : Facts). range_added F base count attributes)

abbrev pub RemovesRange : {T : Type 0} → ℕ → ℕ → ℕ → ℕ → List ℕ → List ℕ → Result T Code → Type 0
RemovesRange base count attributes lines =
    Changes (λ (F : Facts). remove_range_checks F base count attributes lines) (λ (F : Facts). range_removed F base)

-- the ports that are named, with lines, a count and a reach that are right; or the first of these that is wrong
pub record NamesPorts (base count lines x y : ℕ) : Type 0 where
  pub base_is : x ≡ base
  pub count_is : y ≡ count
  pub lines_are : lines ≡ Table.most_lines
  pub least : 1 ≤ count
  pub most : count ≤ Table.all_ports
  pub within : base + count ≤ Table.all_ports

abbrev pub PortsNamedIs : ℕ → ℕ → ℕ → Result (ℕ × ℕ) Code → Type 0
PortsNamedIs base n lines (Ok x) = NamesPorts base n lines x.0 x.1
PortsNamedIs base n lines (Err k) = FirstGiven (((lines ≢ Table.most_lines) gives BadAttribute) ∷ range_checks base n []) k

-- Add's and Remove's own checks of the ports, and what they leave
abbrev pub PutsRange : {T : Type 0} → ℕ → ℕ → ℕ → List ℕ → List ℕ → Result T Code → Type 0
PutsRange base n m b b' c =
    (t : Bool) → m ≡ mark t
    → Changes (put_checks base n) (λ (F : Facts). with_ranges F (inserted (record { base = base; count = n; reserved = t }) F.ranges)) b b' c

abbrev pub TakesRange : {T : Type 0} → ℕ → ℕ → List ℕ → List ℕ → Result T Code → Type 0
TakesRange base n = Changes (take_checks base n) (λ (F : Facts). range_removed F base)

-- i ranges have a base below the number
pub record PlaceOf (b : List ℕ) (from i : ℕ) : Type 0 where
  pub within : i ≤ ranges_in b
  pub ahead : (j : ℕ) → j < i → range_base b j < from
  pub behind : (j : ℕ) → i ≤ j → j < ranges_in b → from ≤ range_base b j

-- where the range in the place i starts, or one past FFFF
abbrev pub StartIs : List ℕ → ℕ → ℕ → Type 0
StartIs b i r = ((i < ranges_in b) × (r ≡ range_base b i)) ⊎ ((ranges_in b ≤ i) × (r ≡ Table.all_ports))

-- none of the ports is managed, and i is where they belong; or one is
pub record FreeAt (b : List ℕ) (base count i : ℕ) : Type 0 where
  pub place : PlaceOf b base i
  pub free : (p : ℕ) → Within p base count → ManagedIn b p → ⊥

abbrev pub FreeIs : List ℕ → ℕ → ℕ → Result ℕ Code → Type 0
FreeIs b base n (Ok i) = FreeAt b base n i
FreeIs b base n (Err k) = (k ≡ InUse) × (p : ℕ) × Within p base n × ManagedIn b p

-- the range of so many ports is put in at the place i
abbrev pub Entered : List ℕ → List ℕ → ℕ → ℕ → ℕ → ℕ → Type 0
Entered b b' i base n reserved = PutIn b b' Layout.head_ranges (range_place i) Layout.handles_at (two base ++ four n ++ reserved ∷ [])

-- the range in the place i has just that base and count; or none has
pub record FoundAt (b : List ℕ) (base count i : ℕ) : Type 0 where
  pub listed : i < ranges_in b
  pub base_is : range_base b i ≡ base
  pub count_is : range_count b i ≡ count

abbrev pub FoundIs : List ℕ → ℕ → ℕ → Result ℕ Code → Type 0
FoundIs b base n (Ok i) = FoundAt b base n i
FoundIs b base n (Err k) = (k ≡ BadBase) × ((i : ℕ) → FoundAt b base n i → ⊥)

-- the range with the lowest base that isn't below the number, or there is none
pub record NextIs (F : Facts) (from base count : ℕ) : Type 0 where
  pub range : Range
  pub listed : range ∈ F.ranges
  pub base_is : (range).base ≡ base
  pub count_is : (range).count ≡ count
  pub lowest : Lowest (λ b. (r : Range) × (r ∈ F.ranges) × (r.base ≡ b) × (from ≤ b)) (range).base

abbrev pub NextRangeIs : List ℕ → ℕ → Option (ℕ × ℕ) → Type 0
NextRangeIs b from (Some x) = (a : Accepted b) → NextIs a.facts from x.0 x.1
NextRangeIs b from None = (a : Accepted b) (r : Range) → r ∈ a.facts.ranges → from ≤ r.base → ⊥
