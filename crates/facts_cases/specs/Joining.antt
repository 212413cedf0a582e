-- Cases of K1 (document 02), beside N1 to N12: which level a sharing request joins, and which requests keep the old choice. Assumes nothing.
use Rattle.std.specs.Prelude.{List, ℕ}
use Rattle.facts.specs.declared.Manner.{Manner}
use Rattle.facts.specs.declared.Manner.TheVariants.{Exclusive, TimeMultiplexed, DynamicLevel, DynamicPulse}
use Rattle.facts.specs.Table.{Facts}
use Rattle.facts.specs.Resources.{level_added, reserve_bit}
use Rattle.facts.specs.Irq.{RequestIrq}
use Rattle.facts_cases.specs.Cases.{Exactly, done, ready, two_levels, granting_irq, irq_packet, dynamic}

-- N6's table has the levels 3, and 5 with reserve; here it is the other way round
abbrev pub three_reserved : Facts
three_reserved = level_added (level_added ready 3 reserve_bit) 5 0

-- both levels are named, "mask 0028H", of a card with the Level and Share bits: the socket, the attributes' low byte, AssignedIRQ
abbrev pub either : ℕ → ℕ → ℕ → List ℕ
either s attributes assigned = irq_packet s attributes assigned 0xB0 0x28

-- the attributes: dynamic sharing, with First Shared, exclusive
abbrev pub sharing : ℕ
sharing = 0x02

abbrev pub first_shared : ℕ
first_shared = 0x0A

abbrev pub alone : ℕ
alone = 0x00

-- on N6's table the socket 0 holds 5, the reserved level, and nobody holds 3
abbrev pub five_held : Manner → Facts
five_held m = granting_irq 0 5 m two_levels

-- the socket 0 shares 5, and the socket 1 shares 3
abbrev pub both_shared : Facts → Facts
both_shared F = granting_irq 1 3 DynamicLevel (granting_irq 0 5 DynamicLevel F)

pub record JoiningCases : Type 0 where
  -- a reserved level with a sharer comes before a free unreserved one
  pub reserved_joined : Exactly (RequestIrq (five_held DynamicLevel) 1 (either 1 sharing 0))
      (done 1 (either 1 sharing 5) (granting_irq 1 5 DynamicLevel (five_held DynamicLevel)))
  -- of two with sharers it is the lowest, whichever is reserved
  pub lowest_joined : Exactly (RequestIrq (both_shared two_levels) 1 (either 2 sharing 0))
      (done 1 (either 2 sharing 3) (granting_irq 2 3 DynamicLevel (both_shared two_levels)))
  pub lowest_reserved : Exactly (RequestIrq (both_shared three_reserved) 1 (either 2 sharing 0))
      (done 1 (either 2 sharing 3) (granting_irq 2 3 DynamicLevel (both_shared three_reserved)))
  -- a level of another manner isn't joined, of another type or of the same
  pub time_multiplexed_left : Exactly (RequestIrq (five_held TimeMultiplexed) 1 (either 1 sharing 0))
      (done 1 (either 1 sharing 3) (granting_irq 1 3 DynamicLevel (five_held TimeMultiplexed)))
  pub pulse_left : Exactly (RequestIrq (five_held DynamicPulse) 1 (either 1 sharing 0))
      (done 1 (either 1 sharing 3) (granting_irq 1 3 DynamicLevel (five_held DynamicPulse)))
  -- First Shared and exclusive keep the old choice
  pub first_shared_lem : Exactly (RequestIrq (five_held DynamicLevel) 1 (either 1 first_shared 0))
      (done 1 (either 1 first_shared 3) (granting_irq 1 3 DynamicLevel (five_held DynamicLevel)))
  pub exclusive : Exactly (RequestIrq (five_held DynamicLevel) 1 (either 1 alone 0))
      (done 1 (either 1 alone 3) (granting_irq 1 3 Exclusive (five_held DynamicLevel)))
  -- a level that has grants of its manner but isn't named: only 3 is
  pub not_named : Exactly (RequestIrq (five_held DynamicLevel) 1 (dynamic 1 0))
      (done 1 (dynamic 1 3) (granting_irq 1 3 DynamicLevel (five_held DynamicLevel)))
