-- `managed_levels::next` meets its contract: `find` gives the first level that is marked, or none is.
-- Assumes nothing.
use Rattle.std.proofs.lemmas.Iterator.{first_from_Range, serves_from_Range}
use Rattle.facts.proofs.Words.{◌≡◌, ◌≢◌, ℕ, rules}
use Rattle.facts.specs.{byte}
use Rattle.layout.specs.{level_place}
use Rattle.layout.proofs.{size_in}
use Rattle.managed_levels.proofs.{next_is}
use Rattle.managed_levels.proofs.next.Goals as goal

pub find-requires-clause-callable : goal.find-requires-clause-callable
find-requires-clause-callable c = serves_from_Range (λ x q h. search rules) (λ x h l. let size = size_in c.args.t.now c.requires in search rules)

pub returns : goal.returns
returns c =
    next_is c.requires _ c.find.result
    (first_from_Range _ _ _ c.find.result (λ (l : ℕ). byte c.args.t.now (level_place l) ≡ 1) (λ (l : ℕ). byte c.args.t.now (level_place l) ≢ 1)
    c.find.ensures.ran (λ x q h. search rules) (λ x q h. search rules))
