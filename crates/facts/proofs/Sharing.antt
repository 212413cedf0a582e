-- "the number of live grants, never over 8". Assumes nothing.
use Rattle.facts.proofs.Words.{Bool, cond, true, false, Option, none, some, ℕ, zero, suc, ◌≤◌, arith, eqb, WellFormed}
use Rattle.facts.specs.{Facts, IrqGrant, sharer, sharers_below, most_sockets}

pub at_most_one : (t : Bool) → cond t 1 0 ≤ 1
at_most_one true = omega arith
at_most_one false = omega arith

sharer_most : (l : ℕ) (g : Option IrqGrant) → sharer l g ≤ 1
sharer_most l none = omega arith
sharer_most l (some g) = at_most_one (eqb g.level l)

below_most : (F : Facts) (l n : ℕ) → sharers_below F l n ≤ n
below_most F l zero = omega arith
below_most F l (suc n) = omega (arith, below_most F l n, sharer_most l (F.irq n))

pub sharers_most : (F : Facts) (l : ℕ) → WellFormed F → sharers_below F l F.sockets ≤ most_sockets
sharers_most F l w = omega (arith, below_most F l F.sockets, w.sockets_most)
