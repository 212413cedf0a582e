-- `client_services::grant_held` meets its contract: each seat in turn, up to the first with a grant.
-- Assumes nothing.
use Rattle.std.proofs.Common.{rules}
use Rattle.table_read.proofs.{any_says}
use Rattle.client_services.proofs.grant_held.Goals as goal

pub returns : goal.returns
returns c = any_says _ c.any.ensures.ran (λ x q k. search rules) (λ x q k. search rules)
