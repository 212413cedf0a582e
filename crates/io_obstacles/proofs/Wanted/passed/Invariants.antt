-- What the loops of `io_obstacles::Wanted::passed` keep.
use Rattle.facts.proofs.Words.{ℕ, ◌+◌, ◌^◌, ◌≤◌}
use Rattle.io_obstacles.specs.{Stretch, Wanted, Bars, LiesInBars, Barring, grant_places}
use Rattle.io_obstacles.proofs.{Gone}
use Rattle.io_obstacles.proofs.Wanted.passed.Given as goal

-- what the search has passed, and knows, by bars with periods of at most two to so many lines
pub record So (grants : Bars grant_places) (w : Wanted) (most base : ℕ) (known : Stretch) : Type 0 where
  pub limit : ℕ
  pub within : limit ≤ w.limit
  pub short : limit + 1 ≤ 2 ^ most
  pub gone : Gone (LiesInBars grants limit) w.step 0 base
  pub bars : Barring (LiesInBars grants limit) w.step known

abbrev pub invariant-loop-most : goal.invariant-loop-most
invariant-loop-most l = So l.grants l.self l.most l.base l.known
