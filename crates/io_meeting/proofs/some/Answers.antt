-- `io_meeting::some` meets its contract: `any` says whether the ports meet some that are held at one of all seats.
-- Assumes nothing.
use Rattle.std.proofs.lemmas.Iterator.{serves_from_Range}
use Rattle.facts.proofs.Words.{rules}
use Rattle.facts.specs.{most_seats}
use Rattle.seats.proofs.{formed_in}
use Rattle.table_read.proofs.{any_says}
use Rattle.io_meeting.proofs.{meets_some}
use Rattle.io_meeting.proofs.some.Goals as goal

pub any-requires-clause-callable : goal.any-requires-clause-callable
any-requires-clause-callable c = serves_from_Range (λ x q h. search rules) (λ x h l. search rules)

pub returns : goal.returns
returns c =
    meets_some _ _ (formed_in c.args.t.now c.requires.accepted) (any_says most_seats c.any.ensures.ran (λ x q h. search rules) (λ x q h. search rules))
