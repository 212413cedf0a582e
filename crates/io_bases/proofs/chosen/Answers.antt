-- `io_bases::chosen` meets its contract: the first candidate, or there is none.
-- Assumes nothing.
use Rattle.io_bases.proofs.{none, first, low}
use Rattle.io_bases.proofs.chosen.Goals as goal

pub returns-in_default : goal.returns-in_default
returns-in_default c = λ a. none a.facts _ c.requires.2 (c.in_default.ensures a)

pub returns : goal.returns
returns c =
    let taken = c.in-Some.ensures in
    let x = c.in-Some.base in
    (low c.requires.0.facts _ c.requires.2 x c.requires.1.port (taken c.requires.0), λ a. first a.facts _ c.requires.2 x (taken a))
