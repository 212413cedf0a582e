-- `table_company::numbers_of` meets its contract: there is no grant, or its numbers are read.
-- Assumes nothing.
use Rattle.facts.proofs.Words.{◌≡◌, ap, ◌∙◌, cond, ◌+◌, ◌-◌, ◌^◌, ◌≤◌, pow_pos, pow_mono, arith}
use Rattle.facts.specs.{IoGrant, most_lines}
use Rattle.seats.proofs.{held_fits, held_lines}
use Rattle.table_company.proofs.numbers_of.Goals.{then-held, else-held}
use Rattle.table_company.proofs.numbers_of.Goals as goal

pub power-ones-requires : goal.power-ones-requires
power-ones-requires c = held_lines _ _ _ c.in-Some.ensures c.requires.1

pub overflow_cast-count : goal.overflow_cast-count
overflow_cast-count c = omega (arith, (held_fits _ _ c.in-Some.held c.in-Some.ensures (λ i. omega (arith, c.type_inv.t i))).1)

pub overflow_cast-result : goal.overflow_cast-result
overflow_cast-result c = omega (arith, (held_fits _ _ c.in-Some.held c.in-Some.ensures (λ i. omega (arith, c.type_inv.t i))).0)

pub overflow_cast-result-2 : goal.overflow_cast-result-2
overflow_cast-result-2 c =
    let lines : c.in-Some.held.ports.lines ≤ most_lines = held_lines _ _ _ c.in-Some.ensures c.requires.1 in
    omega (arith, c.power-ones.ensures, pow_mono lines)

pub returns : goal.returns
returns c =
    let g = c.in-Some.ensures in
    let whole : c.power-ones.result - 1 + 1 ≡ 2 ^ c.in-Some.held.ports.lines = omega (arith, c.power-ones.ensures, pow_pos c.in-Some.held.ports.lines) in
    let unshared : c.if-held.unshared ≡ cond c.in-Some.held.shared 0 c.in-Some.held.ports.count =
    elim c.if-held.branch [ then-held w ↦ rw w.if-held.true w.unshared-is | else-held w ↦ rw w.if-held.false w.unshared-is ] in
    record {
      low = (held_fits _ _ c.in-Some.held g (λ i. omega (arith, c.type_inv.t i))).0;
      free = λ n. absurd (n g.0);
      base = λ u. ap (λ (y : IoGrant). y.ports.base) g.1;
      ones = λ u. whole ∙ ap (λ (y : IoGrant). 2 ^ y.ports.lines) g.1;
      count = λ u. ap (λ (y : IoGrant). y.ports.count) g.1;
      unshared = λ u. unshared ∙ ap (λ (y : IoGrant). cond y.shared 0 y.ports.count) g.1;
    }
