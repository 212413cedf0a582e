-- Ports: which a range has, which are managed, when two ranges meet, and where a card answers. Assumes nothing.
use Rattle.std.specs.Prelude.{◌≡◌, false, ℕ, ◌+◌, ◌%◌, ◌^◌, ◌≤◌, ◌<◌, min}
use Rattle.facts.specs.Sets.{◌∈◌}
use Rattle.facts.specs.Table
use Rattle.facts.specs.Table.{Facts, Seat, Range, HeldPorts, Held}
use Rattle.facts.specs.declared.Ports.{Ports}

-- the port p is one of the count from base on
pub record Within (p base count : ℕ) : Type 0 where
  pub from : base ≤ p
  pub below : p < base + count

-- "Two ranges meet when some port of one equals some port of the other modulo two to the smaller of their decoded line counts."
pub record Meet (a b : Ports) : Type 0 where
  pub one : ℕ
  pub other : ℕ
  pub one_in : Within one a.base a.count
  pub other_in : Within other b.base b.count
  pub equal : one % 2 ^ min a.lines b.lines ≡ other % 2 ^ min a.lines b.lines

-- the ports meet some that are held
pub record MeetsHeld (F : Facts) (a : Ports) : Type 0 where
  pub seat : Seat
  pub range : HeldPorts
  pub held : Held F seat range
  pub meets : Meet a range.ports

-- the range has the port p
abbrev pub Has : Range → ℕ → Type 0
Has r p = Within p r.base r.count

-- a port is managed where some managed range has it
pub record Managed (F : Facts) (p : ℕ) : Type 0 where
  pub range : Range
  pub listed : range ∈ F.ranges
  pub has : Has range p

-- all the ports are managed
abbrev pub AllManaged : Facts → ℕ → ℕ → Type 0
AllManaged F base count = (p : ℕ) → Within p base count → Managed F p

-- K2 (document 02): "each port that equals a granted one modulo two to the lines", up to FFFF: a card that is granted the ports answers at p. It
-- answers at its own ports and, if it decodes fewer than 16 lines, at their aliases: the ports that its lines do not tell from them.
pub record Answers (a : Ports) (p : ℕ) : Type 0 where
  pub below : p < Table.all_ports
  pub own : ℕ
  pub own_in : Within own a.base a.count
  pub equal : p % 2 ^ a.lines ≡ own % 2 ^ a.lines

-- K2: wherever the card answers "must be managed too"
abbrev pub AnswersManaged : Facts → Ports → Type 0
AnswersManaged F a = (p : ℕ) → Answers a p → Managed F p

-- every port lies in a range that is managed and not reserved
abbrev pub WhollyUnreserved : Facts → ℕ → ℕ → Type 0
WhollyUnreserved F base count = (p : ℕ) → Within p base count → (m : Managed F p) × (m.range.reserved ≡ false)

-- two ranges of ports have one in common, whatever lines are decoded
pub record Overlap (base count base' count' : ℕ) : Type 0 where
  pub port : ℕ
  pub one : Within port base count
  pub other : Within port base' count'
