-- `table_masks::masks_sound` meets its contract: masks under their limits are sound.
-- Assumes nothing.
use Rattle.facts.proofs.Words.{refl}
use Rattle.facts.proofs.{says_as}
use Rattle.table_masks.proofs.{steps_are, under_sound, sound_under}
use Rattle.table_masks.proofs.masks_sound.Goals as goal

pub returns : goal.returns
returns c =
    let are = steps_are _ 64 (c.fill.ensures.after (λ y e. e)) refl in
    let few = c.requires.1.sockets_most in
    says_as (rw c.byte-sockets.ensures.0 at c.rows_over.ensures) (under_sound _ are few) (sound_under _ are few)
