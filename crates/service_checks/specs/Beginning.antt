-- How a service on a socket begins. Assumes nothing.
use Rattle.std.specs.Prelude.{◌≡◌, List, [], ℕ, length, Result, Ok, Err}
use Rattle.facts.specs.declared.Code.{Code}
use Rattle.facts.specs.declared.Seat as seat
use Rattle.facts.specs.Table.{Facts, Seat, seat_of, socket_at}
use Rattle.facts.specs.Checks.{Check, FirstGiven}
use Rattle.facts.specs.Sockets.{release_checks, request_checks}
use Rattle.layout.specs.Sound.{Accepted}
use Rattle.client_record.specs.Finding.{ListedAt}
use Rattle.service_checks.specs.Checking.{NamesSocket, CardEnough}
use Rattle.service_checks.specs.declared.CardNeed.{CardNeed}
use Rattle.service_checks.specs.declared.CardNeed.TheVariants.{Needed, Ignored}

-- the checks that stand before a service's own: "length, handle, socket, card"
abbrev pub checks_ahead : CardNeed → ℕ → Facts → ℕ → List ℕ → List Check
checks_ahead Needed n F h p = request_checks n F h p []
checks_ahead Ignored n F h p = release_checks n F h p []

-- none of them applies: the packet p has n bytes, the client h is listed in the place i, s is the seat of the socket that is named, and a card that
-- is needed is in
pub record BegunAt (b p : List ℕ) (n h : ℕ) (need : CardNeed) (i : ℕ) (s : Seat) : Type 0 where
  pub size : length p ≡ n
  pub client : ListedAt b h i
  pub socket : NamesSocket b p (socket_at s)
  pub seat : s ≡ seat_of (socket_at s)
  pub card : CardEnough b (socket_at s) need

-- so it is, or k is the code of the first that applies
abbrev pub BegunIs : List ℕ → ℕ → List ℕ → ℕ → CardNeed → Result (ℕ × seat.Seat) Code → Type 0
BegunIs b h p n need (Ok x) = BegunAt b p n h need x.0 x.1.number
BegunIs b h p n need (Err k) = (a : Accepted b) → FirstGiven (checks_ahead need n a.facts h p) k
