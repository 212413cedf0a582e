-- What the loop of `table_ios::ios_sound` keeps.
use Rattle.facts.proofs.Words.{◌≡◌, List, ℕ, ◌≤◌}
use Rattle.facts.specs.{most_ranges}
use Rattle.layout.specs.{IoPlaceSound}
use Rattle.table_read.proofs.{All, SoFar}
use Rattle.table_company.specs.{CompaniesSound, BlocksOf}
use Rattle.table_ios.proofs.ios_sound.Given as goal

-- what a turn of the loop begins with
pub record Passed (t : List ℕ) (sockets passed common near s : ℕ) : Type 0 where
  pub sound : SoFar sockets (IoPlaceSound t) s
  pub blocks : All s (λ u. BlocksOf t u passed)
  pub kept : common ≡ 0 → CompaniesSound t s
  pub near_most : near ≤ most_ranges

abbrev pub invariant-loop-s : goal.invariant-loop-s
invariant-loop-s l = Passed l.t l.sockets l.passed l.common l.near l.s
