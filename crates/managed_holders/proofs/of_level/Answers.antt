-- `managed_holders::of_level` meets its contract: the holders at the seats passed, and at last at all.
-- Assumes nothing.
use Rattle.facts.proofs.Words.{◌≡◌, arith}
use Rattle.layout.proofs.Of
use Rattle.facts.specs.{most_seats}
use Rattle.layout.specs.{facts_in}
use Rattle.layout.proofs.{size_in}
use Rattle.seats.proofs.{formed_in}
use Rattle.managed_holders.specs.{LevelHolds}
use Rattle.managed_holders.proofs.{holders_more, level_shown}
use Rattle.managed_holders.proofs.of_level.Goals as goal

pub level_at-requires : goal.level_at-requires
level_at-requires c = size_in c.args.t.now c.requires

pub loop-s-preserved : goal.loop-s-preserved
loop-s-preserved c =
    let k = c.loop-s in
    let a = c.args in (
      omega arith,
      rw c.joined-holders.ensures (holders_more k.s (LevelHolds (facts_in a.t.now) a.l) k.holders c.level_at.result k.invariant.1 (rw c.new.ensures at c.level_at.ensures)),
    )

pub returns : goal.returns
returns c =
    λ a.
    let k = c.loop-s in
    let b = c.args.t.now in
    let all : k.s ≡ most_seats = omega (arith, k.invariant.0, c.loop-s-test.false) in
    rw (Of.facts_in_lem b a) (level_shown (facts_in b) (formed_in b c.requires) c.args.l k.holders (rw all at k.invariant.1))
