-- `table_test::sound` meets its contract: each part decides fields of what soundness is.
-- Assumes nothing.
use Rattle.facts.proofs.Words.{rules}
use Rattle.facts.proofs.{says_as}
use Rattle.table_test.proofs.{sockets_of, rest_of, parts_sound}
use Rattle.table_test.proofs.sound.Goals as goal

pub returns-then-sockets_sound : goal.returns-then-sockets_sound
returns-then-sockets_sound c = says_as c.rest_sound.ensures (parts_sound (search rules) (search rules) (search rules)) rest_of

pub returns-else-sockets_sound : goal.returns-else-sockets_sound
returns-else-sockets_sound c = search (rules, sockets_of)
