-- `io_answering::gaps::Gaps::clear` meets its contract: none of the gaps passed is met exactly if what was gathered is 0.
-- Assumes nothing.
use Rattle.facts.proofs.Words.{◌≡◌, ap, ◌∙◌, ℕ, ◌+◌, ◌-◌, ◌%◌, ◌^◌, ◌≤◌, arith, bit_and, pow_pos}
use Rattle.table_read.proofs.{flawless_more}
use Rattle.io_answering.specs.{LowBits}
use Rattle.io_answering.proofs.{masked, row_says}
use Rattle.io_answering.proofs.gaps.Gaps.clear.Goals as goal

pub loop-i-preserved : goal.loop-i-preserved
loop-i-preserved c =
    let a = c.args.ports in
    let ones = c.power-period.result - 1 in
    let l : a.lines ≤ 15 = omega (arith, c.requires.3) in
    let whole : ones + 1 ≡ 2 ^ a.lines = omega (arith, c.power-period.ensures, pow_pos a.lines) in
    let low_bits : LowBits ones = record { lines = a.lines; fewer = c.requires.3; is = whole } in
    let last = a.base + a.count - 1 in
    let remainder : bit_and last ones ≡ last % 2 ^ a.lines = masked last ones low_bits ∙ ap (λ (n : ℕ). last % n) whole in (
      omega (arith, c.loop-i-test.true),
      flawless_more c.ahead-some.result c.loop-i.invariant.1
          (row_says c.args.self.now a c.loop-i.i c.ahead-some.result c.requires.1 c.requires.3 (omega (arith, c.loop-i-test.true)) (rw (remainder, whole) at c.ahead-some.ensures)),
    )
