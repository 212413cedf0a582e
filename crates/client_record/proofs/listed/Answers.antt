-- `client_record::listed` meets its contract: what is gathered is not 0 exactly if one of the clients passed has the handle.
-- Assumes nothing.
use Rattle.facts.proofs.Words.{arith}
use Rattle.facts.proofs.{says_eq}
use Rattle.client_record.proofs.{flag_tells, some_more}
use Rattle.client_record.proofs.listed.Goals as goal

pub loop-i-preserved : goal.loop-i-preserved
loop-i-preserved c =
    (omega arith, some_more _ c.loop-i.invariant.1 (rw (c.from-some.ensures, c.word_u16.ensures) (flag_tells _ (says_eq _ _))))
