-- What the sockets have: cards, and grants of both kinds. Assumes nothing.
use Rattle.std.specs.Prelude.{List, ℕ, ◌+◌, ◌≤◌, ◌<◌}
use Rattle.facts.specs.Table
use Rattle.facts.specs.Packets.{byte}
use Rattle.layout.specs.Layout
use Rattle.layout.specs.Reading.{sockets_in}
use Rattle.layout.specs.Sound.{Zero, CardSound}
use Rattle.seats.specs.Sound.{IosSound, IrqsSound}

-- every card's mark is one, and there is none at a socket from the count on
abbrev pub CardsMarked : List ℕ → Type 0
CardsMarked b = (s : ℕ) → s < Table.most_sockets → byte b (Layout.cards_at + s) ≤ 1

abbrev pub CardsEnd : List ℕ → Type 0
CardsEnd b = Zero b (Layout.cards_at + sockets_in b) (Layout.cards_at + Table.most_sockets)

abbrev pub CardsSound : List ℕ → Type 0
CardsSound b = (s : ℕ) → s < Table.most_sockets → CardSound b s

-- cards, and grants of both kinds
pub record SocketsSound (b : List ℕ) : Type 0 where
  pub cards : CardsSound b
  pub ios : IosSound b
  pub irqs : IrqsSound b
