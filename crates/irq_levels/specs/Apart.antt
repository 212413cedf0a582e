-- Which manners don't go together: a mark for two of them, and the set for one. Assumes nothing.
use Rattle.std.specs.Prelude.{◌≡◌, ◌↔◌, ℕ, ◌^◌, ◌≤◌, ◌<◌}
use Rattle.facts.specs.declared.Manner.{Manner}
use Rattle.facts.specs.Packets.{bit}
use Rattle.facts.specs.Levels.{Together}
use Rattle.layout.specs.Layout.{manner_byte_lem}

-- the mark is 1 exactly if the two don't go together, else 0
pub record MarksApart (a b : Manner) (mark : ℕ) : Type 0 where
  pub most : mark ≤ 1
  pub apart : (mark ≡ 1) ↔ (Together a b → ⊥)

-- the set of the manners that don't go together with m: a bit for each, at the number that its byte says
pub record MannersApart (m : Manner) (set : ℕ) : Type 0 where
  pub manners : set < 2 ^ 4
  pub apart : (k : Manner) → (bit set (manner_byte_lem k) ≡ 1) ↔ (Together m k → ⊥)
