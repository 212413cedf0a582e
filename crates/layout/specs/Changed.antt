-- The table's bytes after a change. Assumes nothing.
use Rattle.std.specs.Prelude.{◌≡◌, ◌⊎◌, ◌≢◌, List, ℕ, ◌+◌, ◌-◌, ◌≤◌, ◌<◌, length, get_or, set}
use Rattle.facts.specs.Table.{Seat}
use Rattle.facts.specs.Packets.{byte, with_word}
use Rattle.layout.specs.Reading.{clients_in, handle_place, attributes_place, events_place, masks_place, io_place_lem, irq_place_lem}
use Rattle.layout.specs.Layout.{head_clients, head_issued, io_base_at, io_count_at, io_lines_at, io_shared_at, irq_level_at, irq_manner_at, handle_size}
use Rattle.layout.specs.Layout.{attributes_size, events_size, masks_size}

-- a new client in the place n: what it is said by, the handles issued, the number of clients
unfoldable pub entered : List ℕ → ℕ → ℕ → ℕ → ℕ → List ℕ
entered b n h attributes events =
    set (set (with_word (with_word (with_word b (handle_place n) h) (events_place n) events) head_issued h) (attributes_place n) attributes) head_clients (n + 1)

-- the record of the I/O grant at the seat s: client, base, count, lines and shared mark
unfoldable pub io_entered : List ℕ → Seat → ℕ → ℕ → ℕ → ℕ → ℕ → List ℕ
io_entered b s client base count lines shared =
    set (set (set (with_word (with_word b (io_place_lem s) client) (io_place_lem s + io_base_at) base) (io_place_lem s + io_count_at) count) (io_place_lem s + io_lines_at) lines) (io_place_lem s + io_shared_at) shared

-- the record of the IRQ grant at the seat s: client, level and manner
unfoldable pub irq_entered : List ℕ → Seat → ℕ → ℕ → ℕ → List ℕ
irq_entered b s client level manner = set (set (with_word b (irq_place_lem s) client) (irq_place_lem s + irq_level_at) level) (irq_place_lem s + irq_manner_at) manner

-- the record of so many bytes at a place is taken out of those up to the end: those after it stand one place lower, and the last one is zero
pub record ClosedUp (b b' : List ℕ) (at bytes end : ℕ) : Type 0 where
  pub size : length b' ≡ length b
  pub moved : (p : ℕ) → at ≤ p → p + bytes < end → byte b' p ≡ byte b (p + bytes)
  pub last : (p : ℕ) → end ≤ p + bytes → p < end → byte b' p ≡ 0
  pub other : (p : ℕ) → (p < at) ⊎ (end ≤ p) → byte b' p ≡ byte b p

-- the client in the place i is taken out of each row, one after the other, and then the number of clients is one less
pub record Withdrawn (b b' : List ℕ) (i : ℕ) : Type 0 where
  pub b₁ : List ℕ
  pub b₂ : List ℕ
  pub b₃ : List ℕ
  pub b₄ : List ℕ
  pub handles : ClosedUp b b₁ (handle_place i) handle_size (handle_place (clients_in b))
  pub attributes : ClosedUp b₁ b₂ (attributes_place i) attributes_size (attributes_place (clients_in b))
  pub events : ClosedUp b₂ b₃ (events_place i) events_size (events_place (clients_in b))
  pub masks : ClosedUp b₃ b₄ (masks_place i) masks_size (masks_place (clients_in b))
  pub number : b' ≡ set b₄ head_clients (clients_in b - 1)

-- the record of so many bytes at a place, in a part that ends at the end, is taken out: those after it stand one place lower, the last one is
-- zero, and the number of records, which stands at count, is one less
pub record TakenOut (b b' : List ℕ) (count at bytes end : ℕ) : Type 0 where
  pub size : length b' ≡ length b
  pub fewer : byte b' count + 1 ≡ byte b count
  pub moved : (p : ℕ) → at ≤ p → p + bytes < end → byte b' p ≡ byte b (p + bytes)
  pub last : (p : ℕ) → end ≤ p + bytes → p < end → byte b' p ≡ 0
  pub other : (p : ℕ) → p ≢ count → (p < at) ⊎ (end ≤ p) → byte b' p ≡ byte b p

-- the record x is put in at a place, in a part that ends at the end: those from there on stand one place higher, and their number is one more
pub record PutIn (b b' : List ℕ) (count at end : ℕ) (x : List ℕ) : Type 0 where
  pub size : length b' ≡ length b
  pub more : byte b' count ≡ byte b count + 1
  pub new : (j : ℕ) → j < length x → byte b' (at + j) ≡ get_or x j 0
  pub moved : (p : ℕ) → at ≤ p → p + length x < end → byte b' (p + length x) ≡ byte b p
  pub other : (p : ℕ) → p ≢ count → (p < at) ⊎ (end ≤ p) → byte b' p ≡ byte b p
