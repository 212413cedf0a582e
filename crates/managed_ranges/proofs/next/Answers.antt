-- `managed_ranges::next` meets its contract: the range at the number's place, if there is one.
-- Assumes nothing.
use Rattle.facts.proofs.Words.{List, ℕ, ◌+◌, ◌≤◌, ◌<◌, arith, length}
use Rattle.layout.specs.{ranges_in, range_place, Accepted, range_size}
use Rattle.layout.proofs.{size_in, sound_in}
use Rattle.managed_ranges.proofs.{next_none, next_found}
use Rattle.managed_ranges.proofs.next.Goals as goal

-- a range's record lies within the table
in_table : (b : List ℕ) (i : ℕ) → Accepted b → i < ranges_in b → range_place i + range_size ≤ length b
in_table b i a l = let sound = sound_in b a in omega (arith, l, sound.size, sound.ranges_most)

pub place-i-requires : goal.place-i-requires
place-i-requires c = let sound = sound_in _ c.requires in (sound.size, sound.ranges_most, sound.ranges)

pub byte-requires : goal.byte-requires
byte-requires c = omega (arith, size_in _ c.requires)

pub returns-then-byte-i : goal.returns-then-byte-i
returns-then-byte-i c = next_none c.place-i.ensures (omega (arith, c.if-byte-i.true, c.byte.ensures.0))

pub word-requires : goal.word-requires
word-requires c = omega (arith, in_table c.args.t.now c.place-i.result c.requires (omega (arith, c.if-byte-i.false, c.byte.ensures.0)))

pub long-requires : goal.long-requires
long-requires c = omega (arith, in_table c.args.t.now c.place-i.result c.requires (omega (arith, c.if-byte-i.false, c.byte.ensures.0)))

pub returns : goal.returns
returns c =
    rw (c.word.ensures.0, c.long.ensures.0)
    (next_found c.place-i.ensures (omega (arith, c.if-byte-i.false, c.byte.ensures.0)))
