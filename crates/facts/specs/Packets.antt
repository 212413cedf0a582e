-- The fields of a packet: little-endian numbers of one, two and four bytes, and bits. Assumes nothing.
use Rattle.std.specs.Prelude.{List, ℕ, ◌+◌, ◌*◌, ◌/◌, ◌%◌, ◌^◌, ◌<◌, get_or, set}

abbrev pub byte : List ℕ → ℕ → ℕ
byte p at = get_or p at 0

abbrev pub word : List ℕ → ℕ → ℕ
word p at = byte p at + 256 * byte p (at + 1)

abbrev pub long : List ℕ → ℕ → ℕ
long p at = word p at + 65536 * word p (at + 2)

-- the packet with a number of two, or of four bytes written at a place
abbrev pub with_word : List ℕ → ℕ → ℕ → List ℕ
with_word p at n = set (set p at (n % 256)) (at + 1) (n / 256 % 256)

abbrev pub with_long : List ℕ → ℕ → ℕ → List ℕ
with_long p at n = with_word (with_word p at (n % 65536)) (at + 2) (n / 65536 % 65536)

-- bit k of n: 1 if it is set, else 0
abbrev pub bit : ℕ → ℕ → ℕ
bit n k = n / 2 ^ k % 2

-- what lies in a packet are bytes
abbrev pub Bytes : List ℕ → Type 0
Bytes p = (at : ℕ) → byte p at < 256
