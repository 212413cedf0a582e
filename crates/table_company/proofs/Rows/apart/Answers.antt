-- `table_company::Rows::apart` meets its contract: what is reached of the seats passed, or-ed together, is 0 exactly if nothing of any is.
-- Assumes nothing.
use Rattle.facts.proofs.Words.{◌≡◌, arith, sym, ◌∙◌}
use Rattle.facts.proofs.{says_as, says_eq}
use Rattle.table_read.proofs.{flawless_more}
use Rattle.table_company.specs.{numbers_at, reached}
use Rattle.table_company.proofs.Rows.apart.Goals as goal

pub loop-u-preserved : goal.loop-u-preserved
loop-u-preserved c =
    let rows = c.args.self.now in
    let is : c.over-some.result ≡ reached (numbers_at rows c.args.s.number) (numbers_at rows c.loop-u.u)
    = rw (c.against-row.ensures c.loop-u.u) at c.over-some.ensures in
    (omega arith, flawless_more c.over-some.result c.loop-u.invariant.1 (says_as (says_eq _ _) (λ z. sym is ∙ z) (λ z. is ∙ z)))
