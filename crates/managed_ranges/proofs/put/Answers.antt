-- `managed_ranges::put` meets its contract: a port is managed, there is no room, or the range is entered in its place.
-- Assumes nothing.
use Rattle.facts.proofs.Words.{refl, arith}
use Rattle.facts.proofs.{handed}
use Rattle.layout.proofs.{size_in, sound_in, stays}
use Rattle.managed_ranges.specs.{PutsRange}
use Rattle.managed_ranges.proofs.{put_taken, put_full, put_made}
use Rattle.managed_ranges.proofs.put.Goals as goal

pub free-requires-clause-ranges : goal.free-requires-clause-ranges
free-requires-clause-ranges c = let sound = sound_in _ c.requires.0 in (sound.size, sound.ranges_most, sound.ranges)

pub returns-in_err-i : goal.returns-in_err-i
returns-in_err-i c =
    let a = c.requires.0 in
    let e = c.in_err-i.ensures in
    handed (PutsRange _ _ _ _ _) _ c.from_residual.ensures e.0 (λ t m. stays _ _ a (put_taken a (e.1, e.2, e.3), refl))

pub byte-requires : goal.byte-requires
byte-requires c = omega (arith, size_in _ c.requires.0)

pub returns-then-byte-ge-MOST_RANGES : goal.returns-then-byte-ge-MOST_RANGES
returns-then-byte-ge-MOST_RANGES c =
    let a = c.requires.0 in λ t e. stays _ _ a (put_full a c.in_ok-i.ensures (omega (arith, c.byte.ensures.0)), refl)

pub enter-requires-clause-room : goal.enter-requires-clause-room
enter-requires-clause-room c = (size_in _ c.requires.0, c.in_ok-i.ensures.place.within, omega (arith, c.byte.ensures.0))

pub returns : goal.returns
returns c = λ t e. put_made c.requires.0 c.in_ok-i.ensures c.requires.1 (omega (arith, c.byte.ensures.0)) e c.enter.ensures
