-- What a table says, fact by fact. Assumes nothing.
use Rattle.std.specs.Prelude.{◌≡◌, ◌↔◌, List, true, ℕ}
use Rattle.std.proofs.Math.Option.{some}
use Rattle.facts.specs.Table.{Facts, Client}
use Rattle.facts.specs.Sets.{◌∈◌}
use Rattle.layout.specs.Sound.{Accepted}
use Rattle.history.specs.Stands.{Fact, client, mask, level, range, card, io, irq}

-- the fact is one of a set of facts
abbrev pub Tells : Facts → Fact → Type 0
Tells F (client h a m) = (c : Client) × (c ∈ F.clients) × (c.handle ≡ h) × (c.attributes ≡ a) × (c.events ≡ m)
Tells F (mask h s m) = (c : Client) × (c ∈ F.clients) × (c.handle ≡ h) × (c.mask s ≡ some m)
Tells F (level l r) = F.level l ≡ record { managed = true; reserved = r }
Tells F (range r) = r ∈ F.ranges
Tells F (card s) = F.card s ≡ true
Tells F (io s g) = F.io s ≡ some g
Tells F (irq s g) = F.irq s ≡ some g

-- the table b is accepted, and says this of its sockets and of the handles issued, and just those facts of which P holds
pub record TellsExactly (b : List ℕ) (sockets issued : ℕ) (P : Fact → Type 0) : Type 0 where
  pub accepted : Accepted b
  pub sockets_are : accepted.facts.sockets ≡ sockets
  pub issued_are : accepted.facts.issued ≡ issued
  pub tells : (f : Fact) → Tells accepted.facts f ↔ P f

-- both tables are accepted, and R holds between what they say
pub record Between (b b' : List ℕ) (R : Facts → Facts → Type 0) : Type 0 where
  pub before : Accepted b
  pub after : Accepted b'
  pub holds : R before.facts after.facts

-- what is told so is told by one table alone, byte for byte
abbrev pub SaidOnce : Type 1
SaidOnce = (b b' : List ℕ) (sockets issued : ℕ) (P : Fact → Type 0) → TellsExactly b sockets issued P → TellsExactly b' sockets issued P → b ≡ b'
