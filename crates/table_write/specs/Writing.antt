-- What writing leaves of a table's bytes. Assumes nothing.
use Rattle.std.specs.Prelude.{◌≡◌, ◌⊎◌, ◌≢◌, List, ℕ, ◌+◌, ◌≤◌, ◌<◌, length}
use Rattle.facts.specs.Packets.{byte}

-- there is room for a record of so many bytes at a place, in a part that ends at the end: the records from there on stand one place higher, and their
-- number, which stands at count, is one more
pub record RoomMade (b b' : List ℕ) (count at bytes end : ℕ) : Type 0 where
  pub size : length b' ≡ length b
  pub more : byte b' count ≡ byte b count + 1
  pub moved : (p : ℕ) → at ≤ p → p + bytes < end → byte b' (p + bytes) ≡ byte b p
  pub other : (p : ℕ) → p ≢ count → (p < at + bytes) ⊎ (end ≤ p) → byte b' p ≡ byte b p
