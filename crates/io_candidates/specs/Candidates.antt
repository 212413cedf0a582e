-- The candidates for a request without a base, said of the bytes, and what the choice among them answers. Assumes nothing.
use Rattle.std.specs.Prelude.{◌≡◌, ◌⊎◌, List, ℕ, ◌+◌, ◌^◌, ◌≤◌, ◌<◌, Option, Some, None}
use Rattle.facts.specs.declared.IoAsked.{IoAsked}
use Rattle.facts.specs.Table
use Rattle.facts.specs.Choice.{Lowest}
use Rattle.facts.specs.Packets.{byte}
use Rattle.facts.specs.Ports.{Within}
use Rattle.facts.specs.Io.{SmallestPower, CandidateTaken, NoCandidate}
use Rattle.layout.specs.Reading.{ranges_in, range_place}
use Rattle.layout.specs.Sound.{Accepted, range_base, range_count}
use Rattle.layout.specs.Layout.{range_reserved_at}
use Rattle.facts.specs.Says.{Says}
use Rattle.io_obstacles.specs.{Wanted, Bars, Multiple, Barring, grant_places}
use Rattle.io_bars.specs.Bars.{GrantBarsOf}
use Rattle.io_candidates.specs.declared.Found.{Found}

-- the reserve mark of the range i
abbrev pub reserve_mark : List ℕ → ℕ → ℕ
reserve_mark b i = byte b (range_place i + range_reserved_at)

-- a port counts where some range has it whose reserve mark is at most `most`: 0 for unreserved ranges alone, 1 for all
pub record Counts (b : List ℕ) (most p : ℕ) : Type 0 where
  pub range : ℕ
  pub listed : range < ranges_in b
  pub mark : reserve_mark b range ≤ most
  pub has : Within p (range_base b range) (range_count b range)

-- the range j starts where others end, and its ports count
pub record FollowsOn (b : List ℕ) (j end most : ℕ) : Type 0 where
  pub listed : j < ranges_in b
  pub starts : range_base b j ≡ end
  pub mark : reserve_mark b j ≤ most

-- from the base of the range i on, the ports before r count; r itself does not, unless it is as far as is wanted
pub record ReachIs (b : List ℕ) (i most want r : ℕ) : Type 0 where
  pub from : range_base b i ≤ r
  pub wanted : r ≤ want
  pub within : r ≤ Table.all_ports
  pub counts : (p : ℕ) → range_base b i ≤ p → p < r → Counts b most p
  pub ends : r < want → Counts b most r → ⊥

-- some range has this reserve mark, or a higher one
pub record SomeMarked (b : List ℕ) (mark : ℕ) : Type 0 where
  pub range : ℕ
  pub listed : range < ranges_in b
  pub marked : mark ≤ reserve_mark b range

-- x is a multiple of the step that isn't barred
pub record Free (Bar : ℕ → Type 0) (step x : ℕ) : Type 0 where
  pub multiple : Multiple step x
  pub unbarred : Bar x → ⊥

-- such an x at or past one number, so many ports from which on end at or before another
pub record FreeBetween (Bar : ℕ → Type 0) (count step from end x : ℕ) : Type 0 where
  pub free : Free Bar step x
  pub past : from ≤ x
  pub before : x + count ≤ end

-- a candidate: such an x that is positive and whose ports all count
pub record CandidateIn (b : List ℕ) (Bar : ℕ → Type 0) (most count step x : ℕ) : Type 0 where
  pub free : Free Bar step x
  pub positive : 1 ≤ x
  pub counted : (p : ℕ) → Within p x count → Counts b most p

-- a candidate whose first port the range i has
pub record StartsIn (b : List ℕ) (Bar : ℕ → Type 0) (i most count step x : ℕ) : Type 0 where
  pub candidate : CandidateIn b Bar most count step x
  pub has : Within x (range_base b i) (range_count b i)

-- the lowest of those that fit, or none does
abbrev pub LowestIs : (ℕ → Type 0) → Option ℕ → Type 0
LowestIs Fit (Some x) = Lowest Fit x
LowestIs Fit None = (x : ℕ) → Fit x → ⊥

-- a search found the lowest of those that fit, and what it knows is barred
pub record Searched (Bar : ℕ → Type 0) (step : ℕ) (Fit : ℕ → Type 0) (r : Found) : Type 0 where
  pub lowest : LowestIs Fit r.taken
  pub bars : Barring Bar step r.known

-- the lowest where unreserved ranges alone count, or else where all do; or there is none
abbrev pub FirstIs : List ℕ → (ℕ → Type 0) → ℕ → ℕ → Option ℕ → Type 0
FirstIs b Bar count step (Some x) =
    Lowest (CandidateIn b Bar 0 count step) x
    ⊎ (((y : ℕ) → CandidateIn b Bar 0 count step y → ⊥) × Lowest (CandidateIn b Bar 1 count step) x)
FirstIs b Bar count step None = (y : ℕ) → CandidateIn b Bar 1 count step y → ⊥

-- a search for what is asked, by the bars of the live grants
pub record Wants (b : List ℕ) (q : IoAsked) (grants : Bars grant_places) (w : Wanted) : Type 0 where
  pub count_is : w.count ≡ q.count
  pub limit_is : w.limit + 1 ≡ 2 ^ q.lines
  pub align : SmallestPower q.count w.step
  pub gaps_count : Says w.gaps (q.lines < Table.most_lines)
  pub grant_bars : GrantBarsOf b q.count q.lines grants
  pub lines : q.lines ≤ Table.most_lines

-- the candidate that is taken, or there is none
abbrev pub TakenIs : List ℕ → IoAsked → Option ℕ → Type 0
TakenIs b q (Some x) = (a : Accepted b) → CandidateTaken a.facts q x
TakenIs b q None = (a : Accepted b) → NoCandidate a.facts q
