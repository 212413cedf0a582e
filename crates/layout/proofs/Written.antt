-- The bytes of a table after a byte, or a number of two or of four bytes, is written. Assumes nothing.
use Rattle.facts.proofs.Words.{◌≡◌, ◌∙◌, ◌⊎◌, ⊎_elim, ◌≢◌, List, ℕ, ◌+◌, ◌/◌, ◌%◌, ◌≤◌, ◌<◌, arith, length, set, length-set, get_or-set_same}
use Rattle.facts.proofs.Words.{get_or-set_other}
use Rattle.facts.specs.{byte, with_word, with_long}

pub byte_same : (b : List ℕ) (at v : ℕ) → at < length b → byte (set b at v) at ≡ v
byte_same b at v l = get_or-set_same b at v 0 l

pub byte_other : (b : List ℕ) (at v p : ℕ) → p ≢ at → byte (set b at v) p ≡ byte b p
byte_other b at v p d = get_or-set_other b at p v 0 d

module _ (b : List ℕ) (at n : ℕ) where
  pub word_length : length (with_word b at n) ≡ length b
  word_length = length-set (set b at (n % 256)) (at + 1) (n / 256 % 256) ∙ length-set b at (n % 256)

  pub word_low : at + 1 < length b → byte (with_word b at n) at ≡ n % 256
  word_low l =
      byte_other (set b at (n % 256)) (at + 1) (n / 256 % 256) at (λ e. omega (arith, e)) ∙ byte_same b at (n % 256) (omega arith)

  pub word_high : at + 1 < length b → byte (with_word b at n) (at + 1) ≡ n / 256 % 256
  word_high l = byte_same (set b at (n % 256)) (at + 1) (n / 256 % 256) (omega (arith, length-set b at (n % 256)))

  pub word_other : (p : ℕ) → p ≢ at → p ≢ at + 1 → byte (with_word b at n) p ≡ byte b p
  word_other p d e = byte_other (set b at (n % 256)) (at + 1) (n / 256 % 256) p e ∙ byte_other b at (n % 256) p d

-- a number of four bytes is two of two bytes
module _ (b : List ℕ) (at n : ℕ) where
  abbrev lower : List ℕ
  lower = with_word b at (n % 65536)

  pub long_length : length (with_long b at n) ≡ length b
  long_length = word_length lower (at + 2) (n / 65536 % 65536) ∙ word_length b at (n % 65536)

  pub long_other : (p : ℕ) → (p < at) ⊎ (at + 4 ≤ p) → byte (with_long b at n) p ≡ byte b p
  long_other p o =
      let apart : (p ≢ at) × (p ≢ at + 1) × (p ≢ at + 2) × (p ≢ at + 2 + 1) = ⊎_elim (λ l. omega arith) (λ l. omega arith) o in
      word_other lower (at + 2) (n / 65536 % 65536) p apart.2 apart.3 ∙ word_other b at (n % 65536) p apart.0 apart.1
