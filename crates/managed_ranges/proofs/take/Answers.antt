-- `managed_ranges::take` meets its contract: no range is just that, a card answers at a port of it, or it is taken out.
-- Assumes nothing.
use Rattle.facts.proofs.Words.{refl, arith}
use Rattle.facts.proofs.{handed, says_yes, says_no}
use Rattle.layout.proofs.{sound_in, stays}
use Rattle.managed_ranges.specs.{TakesRange}
use Rattle.managed_ranges.proofs.{take_nowhere, take_held, take_made}
use Rattle.managed_ranges.proofs.take.Goals as goal

pub find-requires : goal.find-requires
find-requires c = let sound = sound_in _ c.requires in (sound.size, sound.ranges_most, sound.ranges)

pub returns-in_err-i : goal.returns-in_err-i
returns-in_err-i c =
    let a = c.requires in
    let e = c.in_err-i.ensures in
    handed (TakesRange _ _ _ _) _ c.from_residual.ensures e.0 (stays _ _ a (take_nowhere a e.1, refl))

pub some-requires-clause-few : goal.some-requires-clause-few
some-requires-clause-few c =
    let found = c.in_ok-i.ensures in
    let range = (sound_in _ c.requires).ranges _ found.listed in
    (omega (arith, range, found.base_is), omega (arith, range.within, found.count_is), omega arith)

pub returns-then-some : goal.returns-then-some
returns-then-some c = let a = c.requires in stays _ _ a (take_held a c.in_ok-i.ensures (says_yes c.some.ensures c.if-some.true), refl)

pub take_out-requires : goal.take_out-requires
take_out-requires c =
    let found = c.in_ok-i.ensures in
    let sound = sound_in _ c.requires in (
      omega arith,
      omega (arith, found.listed, sound.ranges_most),
      omega (arith, sound.size),
      omega arith,
      omega (arith, found.listed),
    )

pub returns : goal.returns
returns c = take_made c.requires c.in_ok-i.ensures (says_no c.some.ensures c.if-some.false) c.take_out.ensures
