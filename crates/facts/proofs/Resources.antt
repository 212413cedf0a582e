-- Which resource types are built, and the width of a packet for I/O. Assumes nothing.
use Rattle.facts.proofs.Words.{◌≡◌, refl, by_cases, inl, inr, ◌≢◌, ℕ, ◌≤◌, ℕ_discrete, arith}
use Rattle.facts.specs.{Width, Short, Wide, NotBuilt, io_adjust_length}

-- one that is none of the three is
pub is_built : (r : ℕ) → r ≢ 0 → r ≢ 3 → r ≢ 4 → NotBuilt r → ⊥
is_built r a b c (inl e) = a e
is_built r a b c (inr (inl e)) = b e
is_built r a b c (inr (inr e)) = c e

-- 3 and 4 are not
pub three_or_four : (r : ℕ) → 3 ≤ r → r ≤ 4 → NotBuilt r
three_or_four r l m = by_cases (ℕ_discrete r 3) (λ e. inr (inl e)) (λ d. inr (inr (omega (arith, d))))

-- a packet's length has one width
pub width_one : (x y : Width) → io_adjust_length x ≡ io_adjust_length y → x ≡ y
width_one Short Short e = refl
width_one Short Wide e = absurd (omega (arith, e))
width_one Wide Short e = absurd (omega (arith, e))
width_one Wide Wide e = refl
