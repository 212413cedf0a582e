-- What the shared checks tell. Assumes nothing.
use Rattle.std.specs.Prelude.{◌≡◌, ◌⊎◌, ◌≢◌, List, ℕ, ◌+◌, ◌≤◌, ◌<◌, Result, Ok, Err}
use Rattle.facts.specs.declared.Code.{Code}
use Rattle.facts.specs.declared.Code.TheVariants.{BadSocket}
use Rattle.facts.specs.declared.Socket.{Socket}
use Rattle.facts.specs.Packets.{byte}
use Rattle.facts.specs.Sockets.{socket_of}
use Rattle.layout.specs.Layout
use Rattle.layout.specs.Reading.{sockets_in}
use Rattle.service_checks.specs.declared.CardNeed.{CardNeed}
use Rattle.service_checks.specs.declared.CardNeed.TheVariants.{Needed, Ignored}

-- the number is that of a socket below the count, or not
abbrev pub CountedIs : List ℕ → ℕ → Result Socket Code → Type 0
CountedIs b n (Ok s) = (s.0 ≡ n) × (n < sockets_in b)
CountedIs b n (Err k) = (k ≡ BadSocket) × (sockets_in b ≤ n)

-- the packet names a socket below the count and the function 0, or not
pub record NamesSocket (b p : List ℕ) (s : ℕ) : Type 0 where
  pub number : s ≡ socket_of p
  pub counted : socket_of p < sockets_in b
  pub function : byte p 1 ≡ 0

abbrev pub SocketNamedIs : List ℕ → List ℕ → Result Socket Code → Type 0
SocketNamedIs b p (Ok s) = NamesSocket b p s.0
SocketNamedIs b p (Err k) = (k ≡ BadSocket) × ((sockets_in b ≤ socket_of p) ⊎ (byte p 1 ≢ 0))

-- the card that a service needs is in: the socket's byte says a card; or none is needed
abbrev pub CardEnough : List ℕ → ℕ → CardNeed → Type 0
CardEnough b s Needed = byte b (Layout.cards_at + s) ≡ 1
CardEnough b s Ignored = Unit {0}
