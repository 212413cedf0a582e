-- `table_clients::clients_sound` meets its contract: places that are sound, counted and then zero are the clients listed.
-- Assumes nothing.
use Rattle.facts.proofs.Words.{rules}
use Rattle.facts.proofs.{says_as}
use Rattle.table_clients.proofs.{listed, end_listed}
use Rattle.table_clients.proofs.clients_sound.Goals as goal

pub returns-then-counted : goal.returns-then-counted
returns-then-counted c =
    let most = c.requires.1 in
    says_as c.places_end.ensures (listed _ most (search rules) (search rules)) (end_listed _ most)
