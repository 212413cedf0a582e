-- What AdjustResourceInfo's actions are given and answer. Assumes nothing.
use Rattle.std.specs.Prelude.{◌≡◌, List, ℕ, ◌≤◌, Result}
use Rattle.facts.specs.declared.Code.{Code}
use Rattle.facts.specs.declared.Handle.{Handle}
use Rattle.facts.specs.Table.{Facts}
use Rattle.facts.specs.Checks.{Rule}
use Rattle.facts.specs.Resources.{action_of}
use Rattle.layout.specs.Served.{ServedBy}
use Rattle.facts.specs.Checks.{code_in}
use Rattle.service_answers.specs.Answers.{handle_of}
use Rattle.managed_packets.specs.Fields.{NamesBoth}

-- the rule R is served: it answers r, and leaves the packet p' and the table b'
abbrev pub ServesBy : Rule → ℕ → List ℕ → List ℕ → List ℕ → List ℕ → Result Handle Code → Type 0
ServesBy R h p p' b b' r = ServedBy (λ (F : Facts). R F h p) b b' p' (code_in r) (handle_of r)

-- the earlier checks passed, and the packet names the action and the resource
pub record Reached (p : List ℕ) (action resource : ℕ) : Type 0 where
  pub names : NamesBoth p action resource
  pub most : action ≤ 3

-- the action is First or Next
pub record Shows (p : List ℕ) (action : ℕ) : Type 0 where
  pub action_is : action ≡ action_of p
  pub least : 2 ≤ action
  pub most : action ≤ 3
