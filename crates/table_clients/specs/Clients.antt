-- The clients' numbers, place by place, as they are looked at side by side. Assumes nothing.
use Rattle.std.specs.Prelude.{◌≡◌, ◌⊎◌, ◌≢◌, List, ℕ, ◌+◌, ◌-◌, ◌≤◌, ◌<◌}
use Rattle.facts.specs.Table
use Rattle.facts.specs.Packets.{byte, word}
use Rattle.facts.specs.WellFormed.{AttributesAllowed, EventsAllowed}
use Rattle.layout.specs.Layout
use Rattle.layout.specs.Reading.{clients_in, issued_in, handle_in, handle_place, attributes_place, events_place}
use Rattle.layout.specs.Sound.{Zero, ClientsSound, ClientsEnd}

-- one of the three types
abbrev pub OneType : ℕ → Type 0
OneType kind = (kind ≡ 1) ⊎ (kind ≡ 2) ⊎ (kind ≡ 4)

-- no client, and none after it
pub record NoClient (next events attributes : ℕ) : Type 0 where
  pub last : next ≡ 0
  pub no_events : events ≡ 0
  pub no_attributes : attributes ≡ 0

-- a client, whose handle is lower than that of the next one, if there is one
pub record OneClient (h next events attributes : ℕ) : Type 0 where
  pub used : h ≢ 0
  pub rises : (next ≡ 0) ⊎ (h < next)
  pub events_allowed : EventsAllowed events
  pub attributes_allowed : AttributesAllowed attributes

-- the numbers in one place, and the handle in the next
abbrev pub PlaceSound : ℕ → ℕ → ℕ → ℕ → Type 0
PlaceSound h next events attributes = ((h ≡ 0) × NoClient next events attributes) ⊎ OneClient h next events attributes

abbrev pub PlaceSoundIn : List ℕ → ℕ → Type 0
PlaceSoundIn b i = PlaceSound (handle_in b i) (handle_in b (i + 1)) (word b (events_place i)) (byte b (attributes_place i))

-- of each place that a client can have
abbrev pub PlacesSound : List ℕ → Type 0
PlacesSound b = (i : ℕ) → i < Table.most_clients → PlaceSoundIn b i

-- there is no client past the number of them; the last of them is there, and its handle is issued
pub record Counted (b : List ℕ) : Type 0 where
  pub past : handle_in b (clients_in b) ≡ 0
  pub last : 1 ≤ clients_in b → (1 ≤ handle_in b (clients_in b - 1)) × (handle_in b (clients_in b - 1) ≤ issued_in b)

-- the places that no client can have are zero
pub record PlacesEnd (b : List ℕ) : Type 0 where
  pub handles : Zero b (handle_place Table.most_clients) Layout.attributes_at
  pub attributes : Zero b (attributes_place Table.most_clients) Layout.events_at
  pub events : Zero b (events_place Table.most_clients) Layout.ios_at

-- the clients, and that nothing follows them
pub record ClientsListed (b : List ℕ) : Type 0 where
  pub sound : ClientsSound b
  pub end : ClientsEnd b
