-- `io_answering::ahead` meets its contract: the low bits are the remainders.
-- Assumes nothing.
use Rattle.facts.proofs.Words.{◌≡◌, ap, sym, ◌∙◌, ℕ, ◌+◌, ◌-◌, arith, bit_and}
use Rattle.io_answering.specs.{reach_of_lem, ahead_of}
use Rattle.io_answering.proofs.{masked_behind}
use Rattle.io_answering.proofs.ahead.Goals as goal

pub returns-then-reach-behind : goal.returns-then-reach-behind
returns-then-reach-behind c =
    let filled : let a = c.args in ahead_of a.base a.ports a.last a.more (a.ones + 1) ≡ reach_of_lem a.ports a.more - bit_and (a.last + (a.ones + 1) - bit_and a.base a.ones) a.ones =
    let a = c.args in
    ap (λ (n : ℕ). reach_of_lem a.ports a.more - n) (sym (masked_behind a.base a.last a.ones c.requires.3)) in
    omega (arith, filled, c.reach_of-reach.ensures, c.if-reach-behind.true)

pub returns : goal.returns
returns c =
    let filled : let a = c.args in ahead_of a.base a.ports a.last a.more (a.ones + 1) ≡ reach_of_lem a.ports a.more - bit_and (a.last + (a.ones + 1) - bit_and a.base a.ones) a.ones =
    let a = c.args in
    ap (λ (n : ℕ). reach_of_lem a.ports a.more - n) (sym (masked_behind a.base a.last a.ones c.requires.3)) in
    let a = c.args in
    ap (λ (n : ℕ). n - bit_and (a.last + (a.ones + 1) - bit_and a.base a.ones) a.ones) c.reach_of-reach.ensures ∙ sym filled
