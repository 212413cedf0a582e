-- `io_bars::bar_of` meets its contract: the bases from which the last port is no port before those, up to their last.
-- Assumes nothing.
use Rattle.facts.proofs.Words.{◌≡◌, refl, ◌∙◌, ap, min, ◌+◌, ◌^◌, ℕ, arith}
use Rattle.io_bars.proofs.{bar_is}
use Rattle.io_bars.proofs.bar_of.Goals as goal

pub returns : goal.returns
returns c =
    let pre = c.requires in
    let ones : c.limit_of-ones.result + 1 ≡ 2 ^ min c.args.lines c.args.ports.lines = c.limit_of-ones.ensures ∙ ap (λ (k : ℕ). 2 ^ k) c.min.ensures in
    bar_is c.args.ports pre.0 c.args.count c.args.lines pre.1 pre.2 pre.3 _ refl ones (λ z. omega arith) (λ p. grind arith)
