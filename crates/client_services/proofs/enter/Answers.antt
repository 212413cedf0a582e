-- `client_services::enter` meets its contract: the numbers and the count are written one after the other.
-- Assumes nothing.
use Rattle.facts.proofs.Words.{refl}
use Rattle.layout.specs.{entered}
use Rattle.client_services.proofs.enter.Goals as goal

pub returns : goal.returns
unfolding entered
returns c = rw (c.put_word-3.ensures, c.put_word-2.ensures, c.put_word.ensures, c.from-handle.ensures) refl
