-- `io_bases::named` meets its contract: the ports are not all managed, a grant is in the way, or the base is taken.
-- Assumes nothing.
use Rattle.facts.proofs.Words.{refl}
use Rattle.facts.proofs.{handed}
use Rattle.io_bases.specs.{BaseIs}
use Rattle.io_bases.proofs.{unmanaged, held, free}
use Rattle.io_bases.proofs.named.Goals as goal

pub returns-in_err-ports_asked : goal.returns-in_err-ports_asked
returns-in_err-ports_asked c =
    handed (BaseIs _ _) _ c.from_residual.ensures c.in_err-ports_asked.ensures.0
    (λ a. unmanaged a.facts c.args.asked c.requires.2 (c.in_err-ports_asked.ensures.1 a))

pub returns-in_err-in_the_way : goal.returns-in_err-in_the_way
returns-in_err-in_the_way c =
    handed (BaseIs _ _) _ c.from_residual-in_err-in_the_way.ensures c.in_err-in_the_way.ensures.0
    (λ a. held a.facts c.args.asked c.requires.2 (c.in_ok-ports_asked.ensures a) (c.in_err-in_the_way.ensures.1 a))

pub returns : goal.returns
returns c =
    (c.requires.1.base, λ a. free a.facts c.args.asked c.requires.2 (c.in_ok-ports_asked.ensures a) (c.in_ok-in_the_way.ensures a) _ refl)
