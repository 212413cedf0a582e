-- What the bytes of a table say of its levels. Assumes nothing.
use Rattle.facts.proofs.Words.{◌≡◌, ◌≢◌, ap, sym, ◌∙◌, eq-eqb, ne_eqb, List, true, false, ℕ, ◌+◌, ◌<◌}
use Rattle.facts.specs.{Level, byte, all_levels}
use Rattle.layout.specs.{facts_in, level_in, level_place, level_reserved_at, marked}
use Rattle.layout.proofs.{below_in}

-- a level is managed, and reserved, as its marks say
module _ (b : List ℕ) (l : ℕ) (h : l < all_levels) where
  level_read : (facts_in b).level l ≡ level_in b l
  unfolding facts_in
  level_read = below_in all_levels (record { managed = false; reserved = false }) (level_in b) l h

  pub managed_read : ((facts_in b).level l).managed ≡ marked (byte b (level_place l))
  unfolding level_in
  managed_read = ap (λ (v : Level). v.managed) level_read

  pub reserved_read : ((facts_in b).level l).reserved ≡ marked (byte b (level_place l + level_reserved_at))
  unfolding level_in
  reserved_read = ap (λ (v : Level). v.reserved) level_read

  -- the mark as it was read
  module _ {n : ℕ} (read : n ≡ byte b (level_place l + level_reserved_at)) where
    pub reserved_by : n ≡ 1 → ((facts_in b).level l).reserved ≡ true
    reserved_by e = reserved_read ∙ ap marked (sym read) ∙ eq-eqb n 1 e

    pub unreserved_by : n ≢ 1 → ((facts_in b).level l).reserved ≡ false
    unreserved_by d = reserved_read ∙ ap marked (sym read) ∙ ne_eqb n 1 d
