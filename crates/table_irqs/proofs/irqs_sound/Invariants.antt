-- What the loops of `table_irqs::irqs_sound` keep.
use Rattle.layout.specs.{IrqPlaceSound, IrqPairSound}
use Rattle.table_read.specs.{HasJust}
use Rattle.table_read.proofs.{SoFar}
use Rattle.seats.specs.{SeatSound}
use Rattle.table_irqs.specs.{HeldBelow}
use Rattle.table_irqs.proofs.irqs_sound.Given as goal

abbrev pub invariant-loop-s : goal.invariant-loop-s
invariant-loop-s l = SoFar l.sockets (SeatSound (IrqPlaceSound l.t) (IrqPairSound l.t)) l.s × HasJust l.held (HeldBelow l.t l.s)
