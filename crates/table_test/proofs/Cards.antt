-- The cards are sound exactly if each mark is one and there is none from the count of sockets on; and marks or-ed together, less their lowest bits, are 0
-- exactly if each is 0 or 1. Assumes nothing.
use Rattle.facts.proofs.Words.{◌≡◌, List, ℕ, ◌+◌, ◌-◌, ◌/◌, ◌≤◌, ℕ_discrete, dec_lt, arith, eqb, Says}
use Rattle.facts.specs.{byte}
use Rattle.facts.proofs.{told, says_as, says_eq}
use Rattle.layout.specs.{cards_at, sockets_in}
use Rattle.table_test.specs.{CardsMarked, CardsEnd, CardsSound}

module _ (b : List ℕ) where
  pub sound_end : CardsSound b → CardsEnd b
  sound_end c i f l =
      let s = i - cards_at in
      let card = c s (omega arith) in
      let here : i ≡ cards_at + s = omega arith in
      rw here (told (ℕ_discrete (byte b (cards_at + s)) 0) (λ n. omega (arith, card.socket (omega (arith, card.mark)))))

  pub marked_sound : CardsMarked b → CardsEnd b → CardsSound b
  marked_sound m e s l =
      record { mark = m s l; socket = λ k. told (dec_lt s (sockets_in b)) (λ n. omega (arith, e (cards_at + s) (omega arith) (omega arith))) }

  -- a mark is 0 or 1 exactly if its half is 0
  abbrev pub Marked : ℕ → Type 0
  Marked s = byte b (cards_at + s) ≤ 1

  pub mark_says : {mark : ℕ} (s : ℕ) → mark ≡ byte b (cards_at + s) → Says (eqb (mark / 2) 0) (Marked s)
  mark_says {mark} s same = says_as (says_eq (mark / 2) 0) (λ e. omega arith) (λ l. omega arith)
