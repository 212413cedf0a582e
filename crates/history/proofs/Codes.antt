-- Each service and each call of the host gives exactly the codes listed for it. Assumes nothing.
use Rattle.history.specs.{Ours, codes_of, CanGive, ExactCodes}
use Rattle.history.proofs.Impossible.{none_else}
use Rattle.history.proofs.Listed.{each_in}
use Rattle.history.proofs.Examples.{examples}

pub exact_codes : ExactCodes Ours
exact_codes x k = (each_in (CanGive Ours x) (codes_of x) (examples x) k, none_else x k)
