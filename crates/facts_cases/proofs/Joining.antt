-- The cases of K1 hold. Assumes nothing.
use Rattle.facts.proofs.Words.{◌≡◌, refl, sym, ap, ◌∙◌, inl, inr, ⊎_elim, List, some, none-ne-some, some-injective, ℕ, arith}
use Rattle.facts.proofs.Words.{true≢false}
use Rattle.facts.specs.{Manner, TimeMultiplexed, DynamicLevel, DynamicPulse, Facts, IrqGrant, Holds, type_of, level_added, reserve_bit, Lowest}
use Rattle.facts.specs.{RequestIrq, Fits, Named, Joins, IrqAsked, irq_asked}
use Rattle.facts_cases.specs.{Exactly, ready, two_levels, granting_irq, JoiningCases, either, sharing, first_shared, alone, five_held, both_shared}
use Rattle.facts.proofs.{put_is}
use Rattle.facts_cases.proofs.Levels.{granted, bits-B0, bits-A3, plain_good, first_good, managed_are, given, gives_3, three_taken, joins_at}
use Rattle.facts_cases.proofs.Levels.{only_grant}

-- where the socket 0 holds 5, nobody holds 3
three_fits : (m : Manner) {p : IrqAsked} → Named p 3 → Fits (five_held m) p 3
three_fits m named =
    record {
      named = named;
      managed = refl;
      free = inl (λ s g h. omega (arith, h.at, ap (λ (x : IrqGrant). x.level) (only_grant 5 m 3 s g h)));
    }

-- and what is joined there is 5, in that manner
joined_five : (m : Manner) (p : IrqAsked) (l : ℕ) → Joins (five_held m) p l → (l ≡ 5) × (m ≡ p.manner)
joined_five m p l j =
    let only = only_grant 5 m l j.seat j.grant j.holds in (
      sym j.holds.at ∙ ap (λ (g : IrqGrant). g.level) only,
      sym (ap (λ (g : IrqGrant). g.manner) only) ∙ j.manner,
    )

-- a dynamic request from the socket 1 that names both leaves 5 where that is of another manner
left : (m : Manner) → (m ≡ DynamicLevel → ⊥) → Exactly (RequestIrq (five_held m) 1 (either 1 sharing 0)) (granted (five_held m) 1 (either 1 sharing 0) 3)
left m other =
    gives_3 (five_held m).irq 1 sharing bits-B0 (omega arith) refl refl (λ l j. other (joined_five m _ l j).1) (three_fits m refl)

-- both levels are shared, whichever is reserved: the lowest is joined
module _ (a₃ a₅ : ℕ) where
  abbrev table : Facts
  table = both_shared (level_added (level_added ready 3 a₃) 5 a₅)

  abbrev request : List ℕ
  request = either 2 sharing 0

  both_dynamic : (l s : ℕ) (g : IrqGrant) → Holds table l s g → g.manner ≡ DynamicLevel
  both_dynamic l s g h =
      ⊎_elim (λ e. of_grant (sym h.live ∙ e.1))
      (λ e. ⊎_elim (λ e'. of_grant (sym h.live ∙ e.1 ∙ e'.1)) (λ e'. absurd (none-ne-some g (sym e'.1 ∙ sym e.1 ∙ h.live)))
      (put_is two_levels.irq 0 (some (record { client = 1; level = 5; manner = DynamicLevel })) s))
      (put_is (granting_irq 0 5 DynamicLevel two_levels).irq 1 (some (record { client = 1; level = 3; manner = DynamicLevel })) s)
    where
      of_grant : {k : ℕ} → some g ≡ some (record { client = 1; level = k; manner = DynamicLevel }) → g.manner ≡ DynamicLevel
      of_grant e = ap (λ (x : IrqGrant). x.manner) (some-injective g _ e)

  lowest : Lowest (Joins table (irq_asked request)) 3
  lowest =
      record {
        fits =
            record {
              joining = record { shares = λ e. omega (arith, ap type_of e); not_first = refl };
              named = refl;
              managed = refl;
              seat = 1;
              grant = record { client = 1; level = 3; manner = DynamicLevel };
              holds = record { live = refl; at = refl };
              manner = refl;
            };
        least = λ y j. ⊎_elim (λ e. omega arith) (λ e. omega arith) (managed_are a₃ a₅ y j.managed);
      }

  fits : Fits table (irq_asked request) 3
  fits =
      record {
        named = refl;
        managed = refl;
        free = inr (refl, λ s g h. record { equal = both_dynamic 3 s g h; shares = λ e. omega (arith, ap type_of (sym (both_dynamic 3 s g h) ∙ e)) });
      }

  both_joined : Exactly (RequestIrq table 1 request) (granted table 1 request 3)
  both_joined = given a₃ a₅ table.irq 2 sharing bits-B0 (omega arith) (plain_good 2 sharing 0xB0 0x28 (omega arith) refl) refl refl 3 fits (inl lowest)

pub joining_cases : JoiningCases
joining_cases =
    record {
      reserved_joined = joins_at 5 bits-B0 refl refl refl;
      lowest_joined = both_joined 0 reserve_bit;
      lowest_reserved = both_joined reserve_bit 0;
      time_multiplexed_left = left TimeMultiplexed (λ e. omega (arith, ap type_of e));
      pulse_left = left DynamicPulse (λ e. let z : ◌≡◌ {A = ℕ} 0 1 = cc in omega arith);
      first_shared_lem =
          given 0 reserve_bit (five_held DynamicLevel).irq 1 first_shared bits-B0 (omega arith) (first_good 1 0xB0 0x28 refl) refl refl 3
          (three_fits DynamicLevel refl) (three_taken (λ l j. true≢false j.joining.not_first) (three_fits DynamicLevel refl));
      exclusive =
          gives_3 (five_held DynamicLevel).irq 1 alone bits-B0 (omega arith) refl refl (λ l j. j.joining.shares refl)
          (three_fits DynamicLevel refl);
      not_named =
          gives_3 (five_held DynamicLevel).irq 1 0x02 bits-A3 (omega arith) refl refl
          (λ l j. let n = rw (joined_five DynamicLevel _ l j).0 at j.named in omega (arith, n))
          (three_fits DynamicLevel refl);
    }
