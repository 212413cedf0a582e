-- RequestIO (5.52, the form with two-byte base ports) and ReleaseIO (5.44). Assumes nothing.
use Rattle.std.specs.Prelude.{◌≡◌, ◌⊎◌, ◌≢◌, List, [], ◌∷◌, true, ℕ, ◌+◌, ◌*◌, ◌^◌, ◌≤◌, ◌<◌, eqb}
use Rattle.std.proofs.Math.Option.{Option, none, some}
use Rattle.facts.specs.declared.IoAsked.{IoAsked}
use Rattle.facts.specs.declared.Code.TheVariants.{BadAttribute, BadBase, BadSize, InUse}
use Rattle.facts.specs.Table
use Rattle.facts.specs.Table.{Facts, Seat, seat_of, HeldPorts, IoGrant, Held}
use Rattle.facts.specs.declared.Ports.{Ports}
use Rattle.facts.specs.Sets.{put}
use Rattle.facts.specs.Choice.{Chosen}
use Rattle.facts.specs.Ports.{Meet, AllManaged, AnswersManaged, WhollyUnreserved}
use Rattle.facts.specs.Packets.{byte, word, with_word, bit}
use Rattle.facts.specs.Sockets.{socket_of, request_checks, release_checks}
use Rattle.facts.specs.Checks.{Check, ◌gives◌, Leaves, Outcome, Ruled, Rule}

-- the packet (5.52): BasePort1 2 bytes at 2, NumPorts1 at 4, Attributes1 at 5, NumPorts2 at 8, IOAddrLines at 10
abbrev pub request_io_length : ℕ
request_io_length = 11

abbrev pub base_asked_lem : List ℕ → ℕ
base_asked_lem p = word p 2

abbrev pub count_asked_lem : List ℕ → ℕ
count_asked_lem p = byte p 4

abbrev pub io_attributes : List ℕ → ℕ
io_attributes p = byte p 5

abbrev pub second_count : List ℕ → ℕ
second_count p = byte p 8

abbrev pub lines_asked_lem : List ℕ → ℕ
lines_asked_lem p = byte p 10

-- Attributes1 (5.52): Shared, First Shared, Force Alias Accessibility, Data Path Width; bits 4 to 7 are reserved
abbrev pub IoShared : List ℕ → Type 0
IoShared p = bit (io_attributes p) 0 ≡ 1

abbrev pub IoFirstShared : List ℕ → Type 0
IoFirstShared p = bit (io_attributes p) 1 ≡ 1

-- what a packet asks for
abbrev pub io_asked : List ℕ → IoAsked
io_asked p =
    record {
      base = base_asked_lem p;
      count = count_asked_lem p;
      lines = lines_asked_lem p;
      shared = eqb (bit (io_attributes p) 0) 1;
      first = eqb (bit (io_attributes p) 1) 1;
    }

-- the ports asked for, at the base b
abbrev pub ports_at : IoAsked → ℕ → Ports
ports_at q b = record { base = b; count = q.count; lines = q.lines }

-- "attribute bits outside section 5.52's list, First Shared without Shared, or lines outside 1 to 16, BAD_ATTRIBUTE"
abbrev pub IoAttributesBad : List ℕ → Type 0
IoAttributesBad p =
    (2 ^ 4 ≤ io_attributes p) ⊎ (IoFirstShared p × (IoShared p → ⊥)) ⊎ (lines_asked_lem p ≡ 0) ⊎ (Table.most_lines < lines_asked_lem p)

-- "NumPorts1 0 or over two to the lines, or NumPorts2 not 0, BAD_SIZE (BasePort2 and Attributes2 ignored)"
abbrev pub IoSizeBad : List ℕ → Type 0
IoSizeBad p = (count_asked_lem p ≡ 0) ⊎ (2 ^ lines_asked_lem p < count_asked_lem p) ⊎ (second_count p ≢ 0)

-- "Base not 0: a port past FFFF or unmanaged, BAD_BASE." K2 (document 02): "each port that equals a granted one modulo two to the lines must be
-- managed too: BAD_BASE for a named base"
abbrev pub NotAllManaged : Facts → IoAsked → Type 0
NotAllManaged F q =
    (Table.all_ports < q.base + q.count) ⊎ (AllManaged F q.base q.count → ⊥) ⊎ (AnswersManaged F (ports_at q q.base) → ⊥)

-- the request and what is held both share
abbrev pub BothShare : IoAsked → HeldPorts → Type 0
BothShare q x = (q.shared ≡ true) × (x.shared ≡ true)

-- "It meets a live grant, and First Shared is set or the two don't both share: IN_USE."
pub record InTheWay (F : Facts) (q : IoAsked) : Type 0 where
  pub seat : Seat
  pub range : HeldPorts
  pub held : Held F seat range
  pub meets : Meet (ports_at q q.base) range.ports
  pub unshared : (q.first ≡ true) ⊎ (BothShare q range → ⊥)

-- the smallest power of two not below n
pub record SmallestPower (n a : ℕ) : Type 0 where
  pub power : ℕ
  pub is : a ≡ 2 ^ power
  pub not_below : n ≤ a
  pub smallest : (k : ℕ) → n ≤ 2 ^ k → a ≤ 2 ^ k

-- "Base 0: candidates are the positive multiples of the smallest power of two not below the count, all ports managed, none past FFFF, meeting no
-- live grant." K2 (document 02): "each port that equals a granted one modulo two to the lines must be managed too: .. not a candidate for base 0"
pub record Candidate (F : Facts) (q : IoAsked) (b : ℕ) : Type 0 where
  pub step : ℕ
  pub times : ℕ
  pub align : SmallestPower q.count step
  pub multiple : b ≡ times * step
  pub positive : 1 ≤ b
  pub managed : AllManaged F b q.count
  pub answers : AnswersManaged F (ports_at q b)
  pub within : b + q.count ≤ Table.all_ports
  pub meets_none : (s : Seat) (x : HeldPorts) → Held F s x → Meet (ports_at q b) x.ports → ⊥

abbrev pub NoCandidate : Facts → IoAsked → Type 0
NoCandidate F q = (b : ℕ) → Candidate F q b → ⊥

-- "Candidates wholly in unreserved ranges come first, then the lowest"; K2: "The order by reserve looks at the range's own ports alone."
abbrev pub CandidateTaken : Facts → IoAsked → ℕ → Type 0
CandidateTaken F q = Chosen (Candidate F q) (λ b. WhollyUnreserved F b q.count)

-- the base that is taken: the one named, or the first candidate
abbrev pub BaseTaken : Facts → IoAsked → ℕ → Type 0
BaseTaken F q b = ((q.base ≢ 0) × (b ≡ q.base)) ⊎ ((q.base ≡ 0) × CandidateTaken F q b)

abbrev pub with_io : Facts → Seat → Option IoGrant → Facts
with_io F s g =
    record {
      sockets = F.sockets;
      card = F.card;
      issued = F.issued;
      clients = F.clients;
      level = F.level;
      ranges = F.ranges;
      io = put F.io s g;
      irq = F.irq;
    }

-- the checks ahead of the base; "the socket has an I/O grant, IN_USE"
abbrev pub own_io_checks : Facts → List ℕ → List Check → List Check
own_io_checks F p base = (IoAttributesBad p gives BadAttribute) ∷ (IoSizeBad p gives BadSize) ∷ ((F.io (seat_of (socket_of p)) ≢ none) gives InUse) ∷ base

abbrev pub io_ahead_checks : Facts → ℕ → List ℕ → List Check → List Check
io_ahead_checks F h p base = request_checks request_io_length F h p (own_io_checks F p base)

-- "a port past FFFF or unmanaged, BAD_BASE", and K2's. "It meets a live grant, and First Shared is set or the two don't both share: IN_USE. Base 0: candidates ..
-- none: IN_USE."
abbrev pub base_checks : Facts → IoAsked → List Check
base_checks F q =
    (((q.base ≢ 0) × NotAllManaged F q) gives BadBase)
    ∷ (((q.base ≢ 0) × InTheWay F q) gives InUse)
    ∷ (((q.base ≡ 0) × NoCandidate F q) gives InUse)
    ∷ []

abbrev pub io_request_checks : Facts → ℕ → List ℕ → List Check
io_request_checks F h p = io_ahead_checks F h p (base_checks F (io_asked p))

-- the client h is granted the ports at the base taken, on the packet's socket; "Success writes BasePort1."
abbrev pub io_grant : ℕ → IoAsked → ℕ → IoGrant
io_grant h q b = record { client = h; ports = ports_at q b; shared = q.shared }

pub record GrantsIo (F : Facts) (h : ℕ) (p : List ℕ) (o : Outcome) : Type 0 where
  pub base : ℕ
  pub taken : BaseTaken F (io_asked p) base
  pub leaves : Leaves h (with_word p 2 base) (with_io F (seat_of (socket_of p)) (some (io_grant h (io_asked p) base))) o

abbrev pub RequestIo : Rule
RequestIo F h p = Ruled (io_request_checks F h p) (GrantsIo F h p) F p

-- this client holds that base and count at this seat
pub record IoHeld (F : Facts) (h : ℕ) (s : Seat) (base count : ℕ) : Type 0 where
  pub range : HeldPorts
  pub held : Held F s range
  pub client : range.client ≡ h
  pub base_is : range.ports.base ≡ base
  pub count_is : range.ports.count ≡ count

-- the packet of ReleaseIO (5.44): as RequestIO's
abbrev pub release_io_length : ℕ
release_io_length = 11

-- "Release needs no card: BAD_BASE unless this client holds that base and count on this socket. Its NumPorts2 must be 0 (BAD_SIZE before that). Its
-- attributes, lines and BasePort2 are ignored."
abbrev pub io_release_checks : Facts → ℕ → List ℕ → List Check
io_release_checks F h p =
    release_checks release_io_length F h p
    (((second_count p ≢ 0) gives BadSize) ∷ ((IoHeld F h (seat_of (socket_of p)) (base_asked_lem p) (count_asked_lem p) → ⊥) gives BadBase) ∷ [])

abbrev pub ReleaseIo : Rule
ReleaseIo F h p = Ruled (io_release_checks F h p) (Leaves h p (with_io F (seat_of (socket_of p)) none)) F p
