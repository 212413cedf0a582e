-- `managed_holders::of_range` meets its contract: the holders at the seats passed, and at last at all.
-- Assumes nothing.
use Rattle.facts.proofs.Words.{◌≡◌, sym, subst₂, ℕ, arith}
use Rattle.layout.proofs.Of
use Rattle.facts.specs.{most_seats}
use Rattle.layout.specs.{facts_in}
use Rattle.layout.proofs.{size_in}
use Rattle.seats.proofs.{formed_in}
use Rattle.managed_holders.specs.{PortsHold, AreBelow}
use Rattle.managed_holders.proofs.{holders_more, range_shown}
use Rattle.managed_holders.proofs.of_range.Goals as goal

pub ports_at-requires : goal.ports_at-requires
ports_at-requires c = size_in c.args.t.now c.requires

pub loop-s-preserved : goal.loop-s-preserved
loop-s-preserved c =
    let k = c.loop-s in
    let a = c.args in
    let P : ℕ → ℕ → ℕ → Type 0 = PortsHold (facts_in a.t.now) a.base a.count in (
      omega arith,
      rw c.joined-holders.ensures (holders_more k.s P k.holders c.ports_at.result k.invariant.1 (rw c.new.ensures at c.ports_at.ensures)),
    )

pub returns : goal.returns
returns c =
    λ a r e f.
    let k = c.loop-s in
    let b = c.args.t.now in
    let all : k.s ≡ most_seats = omega (arith, k.invariant.0, c.loop-s-test.false) in
    let Are : ℕ → ℕ → Type 0 = λ base count. AreBelow most_seats (PortsHold (facts_in b) base count) k.holders in
    rw (Of.facts_in_lem b a) (range_shown (facts_in b) (formed_in b c.requires) r k.holders (subst₂ Are (sym e) (sym f) (rw all at k.invariant.1)))
