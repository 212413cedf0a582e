-- AdjustResourceInfo (5.3): Add, Remove, First and Next of managed levels and ranges. Assumes nothing.
use Rattle.std.specs.Prelude.{◌≡◌, ◌⊎◌, ◌≢◌, List, [], ◌∷◌, Bool, cond, true, false, ℕ, ◌+◌, ◌^◌, ◌≤◌, ◌<◌, length, set, eqb, ltb}
use Rattle.facts.specs.declared.Code.TheVariants.{BadAttribute, BadBase, BadIrq, BadSize, UnsupportedService, BadArgLength, BadArgs, InUse}
use Rattle.facts.specs.declared.Code.TheVariants.{NoMoreItems, OutOfResource}
use Rattle.facts.specs.declared.Width.{Width}
use Rattle.facts.specs.declared.Width.TheVariants.{Short, Wide}
use Rattle.facts.specs.Table
use Rattle.facts.specs.Table.{Facts, Seat, Level, Range, HeldPorts, IrqGrant, Held}
use Rattle.facts.specs.Sets.{◌∈◌, put, without}
use Rattle.facts.specs.Choice.{Lowest}
use Rattle.facts.specs.Ports.{Within, Has, Managed, Overlap, Answers}
use Rattle.facts.specs.Levels.{Holds, type_of}
use Rattle.facts.specs.Packets.{byte, word, long, with_word, with_long}
use Rattle.facts.specs.Checks.{Check, ◌gives◌, Leaves, Outcome, Ruled, RuledThen, Rule}

-- the actions and the resource types (5.3)
abbrev pub remove : ℕ
remove = 0

abbrev pub add : ℕ
add = 1

abbrev pub first : ℕ
first = 2

abbrev pub next : ℕ
next = 3

abbrev pub io_range : ℕ
io_range = 1

abbrev pub irq_level : ℕ
irq_level = 2

abbrev pub action_of : List ℕ → ℕ
action_of p = byte p 0

abbrev pub resource_of : List ℕ → ℕ
resource_of p = byte p 1

-- the packets (5.3), "IRQ 4; I/O 7 or 12" bytes: IRQ, and I/O in two widths
abbrev pub irq_adjust_length : ℕ
irq_adjust_length = 4

abbrev pub io_adjust_length : Width → ℕ
io_adjust_length Short = 7
io_adjust_length Wide = 12

-- "IRQ: attributes at 2, level at 3."
abbrev pub level_attributes_at : ℕ
level_attributes_at = 2

abbrev pub level_at : ℕ
level_at = 3

abbrev pub level_attributes : List ℕ → ℕ
level_attributes p = byte p level_attributes_at

abbrev pub level_given : List ℕ → ℕ
level_given p = byte p level_at

-- "I/O fields, short: base 2 bytes at 2, ports 1 at 4, attributes at 5, lines at 6. Long: base 4 at 2, ports 4 at 6, attributes at 10, lines at 11."
abbrev pub base_given : Width → List ℕ → ℕ
base_given Short p = word p 2
base_given Wide p = long p 2

abbrev pub count_given : Width → List ℕ → ℕ
count_given Short p = byte p 4
count_given Wide p = long p 6

abbrev pub attributes_at : Width → ℕ
attributes_at Short = 5
attributes_at Wide = 10

abbrev pub lines_at : Width → ℕ
lines_at Short = 6
lines_at Wide = 11

abbrev pub attributes_given : Width → List ℕ → ℕ
attributes_given w p = byte p (attributes_at w)

abbrev pub lines_given : Width → List ℕ → ℕ
lines_given w p = byte p (lines_at w)

-- "A short packet can't show more than 255 ports: BAD_SIZE."
abbrev pub most_shown : ℕ
most_shown = 255

abbrev pub TooMany : Width → ℕ → Type 0
TooMany Short n = most_shown < n
TooMany Wide n = ⊥

-- "Written: base and ports, or level; attributes; lines 16."
abbrev pub with_range : Width → List ℕ → ℕ → ℕ → List ℕ
with_range Short p base count = set (with_word p 2 base) 4 count
with_range Wide p base count = with_long (with_long p 2 base) 6 count

abbrev pub showing_range : Width → List ℕ → Range → ℕ → List ℕ
showing_range w p r attributes = set (set (with_range w p r.base r.count) (attributes_at w) attributes) (lines_at w) Table.most_lines

abbrev pub showing_level : List ℕ → ℕ → ℕ → List ℕ
showing_level p l attributes = set (set p level_attributes_at attributes) level_at l

-- "Resource 0, 3, 4: UNSUPPORTED_SERVICE; over 4: BAD_ARGS."
abbrev pub NotBuilt : ℕ → Type 0
NotBuilt r = (r ≡ 0) ⊎ (r ≡ 3) ⊎ (r ≡ 4)

abbrev pub resource_checks : ℕ → List Check → List Check
resource_checks r own = (NotBuilt r gives UnsupportedService) ∷ ((4 < r) gives BadArgs) ∷ own

-- "Then the length: IRQ 4; I/O 7 or 12."
abbrev pub WrongLength : ℕ → ℕ → Type 0
WrongLength r n = ((r ≡ irq_level) × (n ≢ irq_adjust_length)) ⊎ ((r ≡ io_range) × (n ≢ io_adjust_length Short) × (n ≢ io_adjust_length Wide))

-- "Length under 2: BAD_ARG_LENGTH. Then Action over 3: BAD_ARGS."
abbrev pub adjust_checks : List ℕ → List Check
adjust_checks p =
    ((length p < 2) gives BadArgLength) ∷ ((3 < action_of p) gives BadArgs)
    ∷ resource_checks (resource_of p) ((WrongLength (resource_of p) (length p) gives BadArgLength) ∷ [])

-- "Add (1) allows only bit 6, reserve; Remove (0) no bit; both need lines of 16 for I/O; else BAD_ATTRIBUTE."
abbrev pub reserve_bit : ℕ
reserve_bit = 2 ^ 6

abbrev pub reserves : ℕ → Bool
reserves a = eqb a reserve_bit

abbrev pub AddBits : ℕ → Type 0
AddBits a = (a ≡ 0) ⊎ (a ≡ reserve_bit)

-- a live grant holds the level
pub record LevelHeld (F : Facts) (l : ℕ) : Type 0 where
  pub seat : Seat
  pub grant : IrqGrant
  pub holds : Holds F l seat grant

-- a live grant holds a port of the range; its handle, and whether it shares
pub record RangeHolder (F : Facts) (r : Range) (h : ℕ) (shares : Bool) : Type 0 where
  pub seat : Seat
  pub range : HeldPorts
  pub held : Held F seat range
  pub overlap : Overlap range.ports.base range.ports.count r.base r.count
  pub client : range.client ≡ h
  pub shared : range.shared ≡ shares

pub record RangeHeld (F : Facts) (r : Range) : Type 0 where
  pub client : ℕ
  pub shares : Bool
  pub holder : RangeHolder F r client shares

-- K2 (document 02): "a live grant holds or is repeated at any port of the range": its card answers there
pub record RangeAnswered (F : Facts) (r : Range) : Type 0 where
  pub seat : Seat
  pub range : HeldPorts
  pub held : Held F seat range
  pub port : ℕ
  pub has : Has r port
  pub answers : Answers range.ports port

-- "IRQ then: level over 15 BAD_IRQ; Add of a managed level IN_USE; Remove of an unmanaged one BAD_IRQ, of a held one IN_USE."
abbrev pub with_level : Facts → ℕ → Level → Facts
with_level F l v =
    record {
      sockets = F.sockets;
      card = F.card;
      issued = F.issued;
      clients = F.clients;
      level = put F.level l v;
      ranges = F.ranges;
      io = F.io;
      irq = F.irq;
    }

abbrev pub add_level_checks : Facts → ℕ → ℕ → List Check
add_level_checks F l attributes =
    ((AddBits attributes → ⊥) gives BadAttribute)
    ∷ ((Table.all_levels ≤ l) gives BadIrq)
    ∷ (((F.level l).managed ≡ true) gives InUse)
    ∷ []

abbrev pub level_added : Facts → ℕ → ℕ → Facts
level_added F l attributes = with_level F l (record { managed = true; reserved = reserves attributes })

abbrev pub remove_level_checks : Facts → ℕ → ℕ → List Check
remove_level_checks F l attributes =
    ((attributes ≢ 0) gives BadAttribute)
    ∷ ((Table.all_levels ≤ l) gives BadIrq)
    ∷ (((F.level l).managed ≡ false) gives BadIrq)
    ∷ (LevelHeld F l gives InUse)
    ∷ []

abbrev pub level_removed : Facts → ℕ → Facts
level_removed F l = with_level F l (record { managed = false; reserved = false })

-- "I/O then: ports 0 or over 65,536 BAD_SIZE; a port past FFFF BAD_BASE."
abbrev pub range_checks : ℕ → ℕ → List Check → List Check
range_checks base count own =
    (((count ≡ 0) ⊎ (Table.all_ports < count)) gives BadSize) ∷ ((Table.all_ports < base + count) gives BadBase) ∷ own

-- "Add: a port already managed IN_USE; 32 ranges present OUT_OF_RESOURCE."
abbrev pub put_checks : ℕ → ℕ → Facts → List Check
put_checks base count F =
    (((p : ℕ) × Within p base count × Managed F p) gives InUse) ∷ ((Table.most_ranges ≤ length F.ranges) gives OutOfResource) ∷ []

abbrev pub add_range_checks : Facts → ℕ → ℕ → ℕ → ℕ → List Check
add_range_checks F base count attributes lines =
    (((AddBits attributes → ⊥) ⊎ (lines ≢ Table.most_lines)) gives BadAttribute) ∷ range_checks base count (put_checks base count F)

abbrev pub with_ranges : Facts → List Range → Facts
with_ranges F rs =
    record { sockets = F.sockets; card = F.card; issued = F.issued; clients = F.clients; level = F.level; ranges = rs; io = F.io; irq = F.irq }

-- the ranges and r, in order of base
abbrev pub inserted : Range → List Range → List Range
inserted r [] = r ∷ []
inserted r (x ∷ xs) = cond (ltb r.base x.base) (r ∷ x ∷ xs) (x ∷ inserted r xs)

abbrev pub range_added : Facts → ℕ → ℕ → ℕ → Facts
range_added F base count attributes =
    with_ranges F (inserted (record { base = base; count = count; reserved = reserves attributes }) F.ranges)

-- "Remove: no range with just that base and count BAD_BASE; a live grant holding a port of it IN_USE." K2: "Remove is IN_USE if a live grant holds or
-- is repeated at any port of the range."
abbrev pub JustThat : Facts → ℕ → ℕ → Range → Type 0
JustThat F base count r = (r ∈ F.ranges) × (r.base ≡ base) × (r.count ≡ count)

abbrev pub take_checks : ℕ → ℕ → Facts → List Check
take_checks base count F =
    (((r : Range) → JustThat F base count r → ⊥) gives BadBase) ∷ (((r : Range) × JustThat F base count r × RangeAnswered F r) gives InUse) ∷ []

abbrev pub remove_range_checks : Facts → ℕ → ℕ → ℕ → ℕ → List Check
remove_range_checks F base count attributes lines =
    (((attributes ≢ 0) ⊎ (lines ≢ Table.most_lines)) gives BadAttribute) ∷ range_checks base count (take_checks base count F)

-- the ranges but the one at the base
abbrev pub without_range : ℕ → List Range → List Range
without_range = without (λ (r : Range). r.base)

abbrev pub range_removed : Facts → ℕ → Facts
range_removed F base = with_ranges F (without_range base F.ranges)

-- "First (2) gives the lowest base or level; Next (3) the lowest above the packet's; none: NO_MORE_ITEMS."
abbrev pub Follows : ℕ → ℕ → ℕ → Type 0
Follows action given x = (action ≡ first) ⊎ (given < x)

-- "Bit 7 is set exactly if a live grant holds the level or a port of the range; the handle answered is then the lowest of the holders' handles, else
-- 0. For I/O, bit 0 is set if there are holders and all of them share. .. Other bits are 0."
abbrev pub held_bit : ℕ
held_bit = 2 ^ 7

abbrev pub shared_bit : ℕ
shared_bit = 2 ^ 0

abbrev pub LowestHolder : Facts → Range → ℕ → Type 0
LowestHolder F r = Lowest (λ h. (shares : Bool) × RangeHolder F r h shares)

pub data RangeShown (F : Facts) (r : Range) (attributes handle : ℕ) : Type 0 where
  -- there is no holder
  unheld : (RangeHeld F r → ⊥) → attributes ≡ 0 → handle ≡ 0 → RangeShown F r attributes handle
  -- there is one that doesn't share
  one_alone : (h : ℕ) → RangeHolder F r h false → attributes ≡ held_bit → LowestHolder F r handle → RangeShown F r attributes handle
  -- "there are holders and all of them share"
  all_share : RangeHeld F r → ((h : ℕ) → RangeHolder F r h false → ⊥) → attributes ≡ held_bit + shared_bit → LowestHolder F r handle
      → RangeShown F r attributes handle

abbrev pub RangeNext : Facts → ℕ → ℕ → Range → Type 0
RangeNext F action given r =
    (r ∈ F.ranges) × Lowest (λ b. (x : Range) × (x ∈ F.ranges) × (x.base ≡ b) × Follows action given b) r.base

abbrev pub show_range_checks : Width → Facts → ℕ → ℕ → List Check
show_range_checks w F action given =
    (((r : Range) → (r ∈ F.ranges) → Follows action given r.base → ⊥) gives NoMoreItems)
    ∷ (((r : Range) × RangeNext F action given r × TooMany w r.count) gives BadSize)
    ∷ []

-- "For IRQ, bits 0 to 1 are the holders' type, or 0."
pub record LevelHolder (F : Facts) (l h t : ℕ) : Type 0 where
  pub seat : Seat
  pub grant : IrqGrant
  pub holds : Holds F l seat grant
  pub client : grant.client ≡ h
  pub type : type_of grant.manner ≡ t

pub data LevelShown (F : Facts) (l attributes handle : ℕ) : Type 0 where
  -- there is no holder
  unheld : (LevelHeld F l → ⊥) → attributes ≡ 0 → handle ≡ 0 → LevelShown F l attributes handle
  -- there are holders, all of one type
  of_type : LevelHeld F l → ((h t : ℕ) → LevelHolder F l h t → attributes ≡ held_bit + t) → Lowest (λ h. (t : ℕ) × LevelHolder F l h t) handle
      → LevelShown F l attributes handle

abbrev pub LevelFollows : Facts → ℕ → ℕ → ℕ → Type 0
LevelFollows F action given l = ((F.level l).managed ≡ true) × Follows action given l

abbrev pub show_level_checks : Facts → ℕ → ℕ → List Check
show_level_checks F action given = (((l : ℕ) → LevelFollows F action given l → ⊥) gives NoMoreItems) ∷ []

-- levels: Add, Remove, and what First and Next show
abbrev pub AddLevel : Rule
AddLevel F h p = Ruled (add_level_checks F (level_given p) (level_attributes p)) (Leaves h p (level_added F (level_given p) (level_attributes p))) F p

abbrev pub RemoveLevel : Rule
RemoveLevel F h p = Ruled (remove_level_checks F (level_given p) (level_attributes p)) (Leaves h p (level_removed F (level_given p))) F p

pub record ShowsLevel (F : Facts) (p : List ℕ) (o : Outcome) : Type 0 where
  pub level : ℕ
  pub attributes : ℕ
  pub handle : ℕ
  pub next_is : Lowest (LevelFollows F (action_of p) (level_given p)) level
  pub shown : LevelShown F level attributes handle
  pub leaves : Leaves handle (showing_level p level attributes) F o

abbrev pub ShowLevel : Rule
ShowLevel F h p = Ruled (show_level_checks F (action_of p) (level_given p)) (ShowsLevel F p) F p

-- ranges, at either width: Add, Remove, and what First and Next show
abbrev pub AddRange : Width → Rule
AddRange w F h p =
    Ruled (add_range_checks F (base_given w p) (count_given w p) (attributes_given w p) (lines_given w p))
    (Leaves h p (range_added F (base_given w p) (count_given w p) (attributes_given w p))) F p

abbrev pub RemoveRange : Width → Rule
RemoveRange w F h p =
    Ruled (remove_range_checks F (base_given w p) (count_given w p) (attributes_given w p) (lines_given w p))
    (Leaves h p (range_removed F (base_given w p))) F p

pub record ShowsRange (w : Width) (F : Facts) (p : List ℕ) (o : Outcome) : Type 0 where
  pub range : Range
  pub attributes : ℕ
  pub handle : ℕ
  pub next_is : RangeNext F (action_of p) (base_given w p) range
  pub shown : RangeShown F range attributes handle
  pub leaves : Leaves handle (showing_range w p range attributes) F o

abbrev pub ShowRange : Width → Rule
ShowRange w F h p = Ruled (show_range_checks w F (action_of p) (base_given w p)) (ShowsRange w F p) F p

-- by the action: Add (1), Remove (0), First (2) or Next (3)
abbrev pub ByAction : Rule → Rule → Rule → Rule
ByAction Add Remove Show F h p o =
    ((action_of p ≡ add) × Add F h p o) ⊎ ((action_of p ≡ remove) × Remove F h p o)
    ⊎ (((action_of p ≡ first) ⊎ (action_of p ≡ next)) × Show F h p o)

abbrev pub AdjustIrq : Rule
AdjustIrq = ByAction AddLevel RemoveLevel ShowLevel

abbrev pub AdjustIo : Width → Rule
AdjustIo w = ByAction (AddRange w) (RemoveRange w) (ShowRange w)

-- by the resource; "The handle isn't looked at."
abbrev pub ByResource : Rule
ByResource F h p o =
    ((resource_of p ≡ irq_level) × AdjustIrq F h p o)
    ⊎ ((resource_of p ≡ io_range) × (w : Width) × (length p ≡ io_adjust_length w) × AdjustIo w F h p o)

abbrev pub AdjustResourceInfo : Rule
AdjustResourceInfo F h p = RuledThen (adjust_checks p) (ByResource F h p) F p
