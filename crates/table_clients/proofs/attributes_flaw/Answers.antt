-- `table_clients::attributes_flaw` meets its contract: five bits, and one type.
-- Assumes nothing.
use Rattle.facts.proofs.Words.{◌/◌, arith}
use Rattle.facts.proofs.{says_as, says_eq}
use Rattle.table_read.proofs.{or_says}
use Rattle.table_clients.proofs.attributes_flaw.Goals as goal

pub returns : goal.returns
returns c =
    let a = c.args.a in
    says_as (or_says (a / 32) c.type_flaw.result (says_eq (a / 32) 0) c.type_flaw.ensures)
    (λ p. record { bits = omega (arith, p.0); type = p.1 }) (λ p. (omega (arith, p.bits), p.type))
