-- The manners that don't go with one; what IRQ grants hold; and that a grant keeps company with those at the seats below it exactly if none of them
-- holds its level in a manner that doesn't go with its own. Assumes nothing.
use Rattle.facts.proofs.Words.{◌≡◌, refl, sym, ap, ap₂, ◌∙◌, subst, ◌↔◌, List, ℕ, ◌+◌, ◌*◌, ◌^◌, ◌≤◌, ◌<◌, arith, bit_and, eqb, Says}
use Rattle.facts.specs.{Manner, Exclusive, TimeMultiplexed, DynamicLevel, DynamicPulse, byte, bit, Together}
use Rattle.facts.proofs.{told, says_as, says_dec, bit_below, shifted_bit, shifted_only}
use Rattle.layout.specs.{irq_size, irq_place_lem, irq_in, manner_of_lem, IrqUsed, IrqPlaceSound, IrqPairSound, irq_level_at, irq_manner_at}
use Rattle.layout.proofs.{below_at, used_sound}
use Rattle.irq_levels.specs.Apart.{MannersApart}
use Rattle.irq_levels.proofs.{rule_says}
use Rattle.table_read.specs.{HasJust}
use Rattle.table_read.proofs.{exactly_one, common_says}
use Rattle.seats.specs.{PlacesSound, CompanySound}
use Rattle.table_irqs.specs.{HoldsAs, HeldBelow, Against, held_as}

-- the set of the manners that don't go with one, by their numbers
number_apart : {m : Manner} {set : ℕ} → MannersApart m set → (k : ℕ) → k < 4 → (bit set k ≡ 1) ↔ (Together m (manner_of_lem k) → ⊥)
number_apart {m} {set} a =
    below_at 4 (λ k. (bit set k ≡ 1) ↔ (Together m (manner_of_lem k) → ⊥))
    ((((tt, a.apart Exclusive), a.apart TimeMultiplexed), a.apart DynamicLevel), a.apart DynamicPulse)

-- what a grant holds, by the level and the manner that its record says
module _ (b : List ℕ) (s : ℕ) {level manner : ℕ} (l : level ≡ byte b (irq_place_lem s + irq_level_at)) (m : manner ≡ byte b (irq_place_lem s + irq_manner_at)) (u : IrqUsed b s)
    (set : ℕ) where
  pub own_held : set ≡ 2 ^ held_as level manner → HasJust set (HoldsAs b s)
  own_held e =
      rw e (exactly_one (held_as level manner) (record { used = u; number = sym (ap₂ held_as l m) }) (λ k h. ap₂ held_as l m ∙ h.number))

  pub apart_against : (apart : ℕ) → MannersApart (manner_of_lem manner) apart → set ≡ apart * 2 ^ (level * 4) → HasJust set (Against b s)
  apart_against apart a e = record { has = has; only = only }
    where
      has : (k : ℕ) → Against b s k → bit set k ≡ 1
      has k g =
          ap₂ bit e (sym (ap (λ (n : ℕ). held_as n g.manner) l ∙ g.number)) ∙ shifted_bit apart (level * 4) g.manner
          ∙ (number_apart a g.manner (omega (arith, g.last))).1 (rw m g.apart)

      only : (k : ℕ) → bit set k ≡ 1 → Against b s k
      only k o =
          let at = shifted_only apart (level * 4) k (ap (λ (n : ℕ). bit n k) (sym e) ∙ o) in
          let low = bit_below apart 4 at.0 a.manners at.2 in
          let other = rw m at ((number_apart a at.0 low).0 at.2) in
          record { used = u; manner = at.0; last = omega (arith, low); apart = other; number = ap (λ (n : ℕ). held_as n at.0) (sym l) ∙ at.1 }

-- the grant at the seat s, held against what those at the seats below it hold
module _ (b : List ℕ) (s : ℕ) (places : PlacesSound (IrqPlaceSound b) s) where
  manner_last : (t : ℕ) → t < s → IrqUsed b t → byte b (irq_place_lem t + irq_manner_at) ≤ 3
  manner_last t l u = (used_sound b (irq_place_lem t) irq_size (omega arith) (places t l) u).manner

  apart_company : ((k : ℕ) → HeldBelow b s k → Against b s k → ⊥) → CompanySound (IrqPairSound b) s
  unfolding irq_in
  apart_company n t l u u' same =
      let other = byte b (irq_place_lem t + irq_manner_at) in
      told (says_dec _ (rule_says (irq_in b s).manner (irq_in b t).manner))
      (λ d. n (held_as (byte b (irq_place_lem t + irq_level_at)) other) (t, l, record { used = u'; number = refl })
      (record { used = u; manner = other; last = manner_last t l u'; apart = d; number = ap (λ (x : ℕ). held_as x other) same }))

  company_apart : CompanySound (IrqPairSound b) s → (k : ℕ) → HeldBelow b s k → Against b s k → ⊥
  unfolding irq_in
  company_apart c k h g =
      let t = h.0 in
      let held = h.2 in
      let last = manner_last t h.1 held.used in
      let level : byte b (irq_place_lem s + irq_level_at) ≡ byte b (irq_place_lem t + irq_level_at) = omega (arith, g.number, held.number, g.last) in
      let manner : byte b (irq_place_lem t + irq_manner_at) ≡ g.manner = omega (arith, g.number, held.number, g.last) in
      g.apart (subst (λ (x : ℕ). Together (manner_of_lem (byte b (irq_place_lem s + irq_manner_at))) (manner_of_lem x)) manner (c t h.1 g.used held.used level))

  pub held_says : (x y : ℕ) → HasJust x (HeldBelow b s) → HasJust y (Against b s) → Says (eqb (bit_and x y) 0) (CompanySound (IrqPairSound b) s)
  held_says x y h a = says_as (common_says x y h a) apart_company company_apart
