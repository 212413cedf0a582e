-- `client_services::mask_held` meets its contract: each seat in turn, up to the first with a mask.
-- Assumes nothing.
use Rattle.std.proofs.Common.{rules}
use Rattle.table_read.proofs.{any_says}
use Rattle.client_services.proofs.mask_held.Goals as goal

pub returns : goal.returns
returns c = any_says _ c.any.ensures.ran (λ x q k. search rules) (λ x q k. search rules)
