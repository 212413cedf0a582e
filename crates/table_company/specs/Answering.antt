-- What keeps two I/O grants from company is a block of ports in which both answer. A set of blocks has a bit for each. Assumes nothing.
use Rattle.std.specs.Prelude.{◌≡◌, ℕ, ◌/◌, ◌%◌, ◌^◌, ◌<◌, true, List}
use Rattle.facts.specs.Table.{Seat}
use Rattle.facts.specs.declared.Ports.{Ports}
use Rattle.facts.specs.Packets.{bit}
use Rattle.facts.specs.Ports.{Within}
use Rattle.layout.specs.Reading.{io_in}
use Rattle.layout.specs.Sound.{IoUsed, IoPairSound}
use Rattle.seats.specs.Sound.{CompanySound}
use Rattle.table_read.specs.Sets.{Covers}

-- ports stand in blocks of eight, which are counted modulo 64
abbrev pub block_of : ℕ → ℕ
block_of p = p / 8 % 64

-- the set has the block of each of the count ports from base on
abbrev pub BlocksWithin : ℕ → ℕ → ℕ → Type 0
BlocksWithin set base count = (p : ℕ) → Within p base count → bit set (block_of p) ≡ 1

-- a card that is granted the ports answers in the block k: to a port there that equals one of its own modulo two to its lines
pub record AnswersInBlock (a : Ports) (k : ℕ) : Type 0 where
  pub port : ℕ
  pub own : ℕ
  pub own_in : Within own a.base a.count
  pub equal : port % 2 ^ a.lines ≡ own % 2 ^ a.lines
  pub block : block_of port ≡ k

-- the set has the blocks in which the card of the I/O grant at the seat s answers, if there is one
abbrev pub BlocksOf : List ℕ → Seat → ℕ → Type 0
BlocksOf b s set = IoUsed b s → Covers set (AnswersInBlock (io_in b s).ports)

-- the I/O grant at each seat below n keeps company with those at the seats below its own
abbrev pub CompaniesSound : List ℕ → ℕ → Type 0
CompaniesSound b n = (s : Seat) → s < n → CompanySound (IoPairSound b) s

-- the I/O grant at the seat s, if there is one, is shared; and so is that at each seat below n
abbrev pub SharedAt : List ℕ → Seat → Type 0
SharedAt b s = IoUsed b s → (io_in b s).shared ≡ true

abbrev pub AllShared : List ℕ → ℕ → Type 0
AllShared b n = (s : Seat) → s < n → SharedAt b s
