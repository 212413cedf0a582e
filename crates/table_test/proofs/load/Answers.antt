-- `table_test::load` meets its contract: sound bytes are the images of the well-formed sets, and no others.
-- Assumes nothing.
use Rattle.facts.proofs.Words.{arith, refl}
use Rattle.layout.proofs.{sound_accepted, accepted_sound}
use Rattle.table_test.proofs.load.Goals as goal

pub returns-then-sound : goal.returns-then-sound
returns-then-sound c = sound_accepted c.args.t.now (λ i. omega (arith, c.type_inv.t i)) (c.sound.ensures.holds c.if-sound.true)

pub returns-else-sound : goal.returns-else-sound
returns-else-sound c = (refl, λ a. c.sound.ensures.fails c.if-sound.false (accepted_sound c.args.t.now a))
