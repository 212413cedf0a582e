-- What holds at a packet's width holds of the packet. Assumes nothing.
use Rattle.facts.proofs.Words.{◌≡◌, List, ℕ, ◌≤◌, dec_le, arith}
use Rattle.facts.specs.{Width, Short, RangeAsked, TooMany, most_shown}
use Rattle.facts.proofs.{told}
use Rattle.managed_packets.specs.{AskedIs}

pub asked_at : {w v : Width} {p : List ℕ} {r : RangeAsked} → w ≡ v → AskedIs v p r → AskedIs w p r
asked_at e = rw e (λ x. x)

-- a short packet can show no more than 255 ports
pub few_at : {w : Width} {n : ℕ} → w ≡ Short → (TooMany w n → ⊥) → n ≤ most_shown
few_at {n = n} e few = told (dec_le n most_shown) (λ m. few (rw e (omega (arith, m))))
