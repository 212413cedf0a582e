-- Stretches of a table's bytes that are zero. Assumes nothing.
use Rattle.std.specs.Prelude.{List, ℕ, ◌+◌, ◌*◌}
use Rattle.facts.specs.Packets.{byte}
use Rattle.layout.specs.Sound.{Zero}

-- so many bytes from each of four places on are zero
pub record FourZero (b : List ℕ) (first second third fourth size : ℕ) : Type 0 where
  pub one : Zero b first (first + size)
  pub two : Zero b second (second + size)
  pub three : Zero b third (third + size)
  pub four : Zero b fourth (fourth + size)

-- the number of eight bytes from a place on, little-endian
abbrev pub eight : List ℕ → ℕ → ℕ
eight b at =
    byte b at + 256 * byte b (at + 1) + 65536 * byte b (at + 2) + 16777216 * byte b (at + 3) + 4294967296 * byte b (at + 4)
    + 1099511627776 * byte b (at + 5)
    + 281474976710656 * byte b (at + 6)
    + 72057594037927936 * byte b (at + 7)
