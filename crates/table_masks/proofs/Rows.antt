-- Masks within their limits are sound, and the other way round; and the limits as they are written. Assumes nothing.
use Rattle.std.proofs.lemmas.List.{places}
use Rattle.facts.proofs.Words.{◌≡◌, inl, inr, ⊎_elim, by_cases, List, ◌++◌, ℕ, ◌+◌, ◌-◌, ◌≤◌, ◌<◌, dec_lt, arith, get_or, replicate}
use Rattle.facts.specs.{all_events, most_sockets}
use Rattle.layout.specs.{sockets_in, MasksSound, seat_room}
use Rattle.table_masks.specs.{StepsAre, RowsUnder}

-- the step that is the limit of the seat s, where there are so many sockets
module _ {steps : List ℕ} (are : StepsAre steps) {sockets : ℕ} (few : sockets ≤ most_sockets) where
  limit_in : (s : ℕ) → s < sockets → get_or steps (most_sockets - sockets + s) 0 ≡ all_events
  limit_in s l = are.first (most_sockets - sockets + s) (omega arith)

  limit_past : (s : ℕ) → sockets ≤ s → s < seat_room → get_or steps (most_sockets - sockets + s) 0 ≡ 0
  limit_past s l m = are.past (most_sockets - sockets + s) (omega arith) (omega (arith, are.room))

module _ (b : List ℕ) {steps : List ℕ} (are : StepsAre steps) (few : sockets_in b ≤ most_sockets) where
  pub under_sound : RowsUnder b steps (most_sockets - sockets_in b) → MasksSound b
  under_sound under i l s m =
      by_cases (dec_lt s (sockets_in b)) (λ h. inr (omega (arith, under i l s m, limit_in are few s h), h))
      (λ h. inl (omega (arith, under i l s m, limit_past are few s (omega arith) m)))

  pub sound_under : MasksSound b → RowsUnder b steps (most_sockets - sockets_in b)
  sound_under sound i l s m = ⊎_elim (λ z. omega (arith, z)) (λ u. omega (arith, u.0, limit_in are few s u.1)) (sound i l s m)

-- eight limits written over as many zeros
pub steps_are : (limits : List ℕ) (n : ℕ) → limits ≡ replicate most_sockets all_events → n ≡ seat_room → StepsAre (limits ++ replicate n 0)
steps_are limits n e r =
    record { room = grind (arith, places); first = λ k l. grind (arith, places); past = λ k l m. grind (arith, places) }
