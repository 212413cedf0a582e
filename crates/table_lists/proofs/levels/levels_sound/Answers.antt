-- `table_lists::levels::levels_sound` meets its contract. The loop's invariant: what is wrong is 0 exactly if the levels passed are sound.
-- Assumes nothing.
use Rattle.facts.proofs.Words.{◌≡◌, List, ℕ, ◌+◌, ◌/◌, ◌%◌, ◌≤◌, arith, eqb, Says}
use Rattle.facts.specs.{Bytes, word}
use Rattle.facts.proofs.{says_as}
use Rattle.layout.specs.{LevelSound, level_place}
use Rattle.table_read.proofs.{flawless_more}
use Rattle.table_lists.proofs.levels.levels_sound.Goals as goal

-- a level's marks, read as one number
marks_say : (b : List ℕ) (l n r : ℕ) → Bytes b → n ≡ word b (level_place l) → Says (eqb r 0) ((n % 256 ≤ 1) × (n / 256 ≤ n % 256))
    → Says (eqb r 0) (LevelSound b l)
marks_say b l n r bytes e s =
    let low = bytes (level_place l) in
    let high = bytes (level_place l + 1) in
    says_as s (λ p. record { managed = omega (arith, e, low, high, p.0); reserved = omega (arith, e, low, high, p.1) })
    (λ p. (omega (arith, e, low, high, p.managed), omega (arith, e, low, high, p.managed, p.reserved)))

pub loop-l-preserved : goal.loop-l-preserved
loop-l-preserved c = (
  omega arith,
  flawless_more _ c.loop-l.invariant.1
      (marks_say c.args.t.now c.loop-l.l c.word_u16.result c.level_flaw-flaws.result
      (λ at. omega (arith, c.type_inv.t at)) c.word_u16.ensures c.level_flaw-flaws.ensures),
)
