-- What is shown of all holders is what the rules say. Assumes nothing.
use Rattle.facts.proofs.Words.{◌≡◌, refl, ap, sym, ◌∙◌, subst, Bool, true, false, some-injective, ℕ, ◌+◌, ◌<◌, ℕ_discrete, arith, WellFormed}
use Rattle.facts.proofs.Words.{by_cases}
use Rattle.std.specs.Prelude as std
use Rattle.std.specs.Prelude.{Some, None}
use Rattle.managed_holders.specs.declared.Holders.{Holders}
use Rattle.facts.specs.{Facts, Range, HeldPorts, IrqGrant, Lowest, Holds, Held, type_of, LevelHeld, LevelHolder, RangeHeld, RangeHolder, LowestHolder}
use Rattle.facts.specs.{RangeShown, of_type, one_alone, all_share, held_bit, shared_bit, most_seats}
use Rattle.managed_holders.specs.{LevelHolds, shown, PortsHold, AreBelow, HoldLevel, HoldRange}

module _ (F : Facts) (formed : WellFormed F) where
  -- two grants of one level have one manner
  same_manner : {l s t : ℕ} {g g' : IrqGrant} → Holds F l s g → Holds F l t g' → g.manner ≡ g'.manner
  same_manner {l} {s} {t} {g} {g'} x y =
      by_cases (ℕ_discrete s t) (λ e. ap (λ (g : IrqGrant). g.manner) (some-injective g g' (sym x.live ∙ ap F.irq e ∙ y.live)))
      (λ d. (formed.irq_company s t g g' d x.live y.live (x.at ∙ sym y.at)).equal)

  -- of a level
  module _ (l : ℕ) where
    below : {s : ℕ} {g : IrqGrant} → Holds F l s g → s < most_seats
    below {s} {g} x = omega (arith, (formed.irqs s g x.live).socket, formed.sockets_most)

    pub level_shown : (r : std.Option Holders) → AreBelow most_seats (LevelHolds F l) r → HoldLevel F l r
    level_shown None none = λ x. none x.seat (below x.holds) _ _ (x.grant, x.holds, refl, refl)
    level_shown (Some r) (low, of-all) = (held, of_type held one_type lowest)
      where
        held : LevelHeld F l
        held = let x = of-all.fits in record { seat = x.0; grant = x.2.1.0; holds = x.2.1.1 }

        one_type : (h t : ℕ) → LevelHolder F l h t → r.shown ≡ held_bit + t
        one_type h t y =
            sym of-all.fits.2.1.3 ∙ ap (λ (n : ℕ). held_bit + n) (ap type_of (same_manner held.holds y.holds) ∙ y.type)

        lowest : Lowest (λ x. (t : ℕ) × LevelHolder F l x t) r.lowest.0
        lowest =
            let (s, m, (y, (g, holds, client, e))) = low.fits in
            record {
              fits = (type_of g.manner, record { seat = s; grant = g; holds = holds; client = client; type = refl });
              least = λ x y. low.least x (y.1.seat, below y.1.holds, (_, (y.1.grant, y.1.holds, y.1.client, refl)));
            }

  -- of a range
  module _ (r : Range) where
    seat_below : {s : ℕ} {x : HeldPorts} → Held F s x → s < most_seats
    seat_below {s} {x} e = omega (arith, (formed.ios s x e).socket, formed.sockets_most)

    abbrev Holder : ℕ → ℕ → ℕ → Type 0
    Holder = PortsHold F r.base r.count

    holder : {s h a : ℕ} → (p : Holder s h a) → RangeHolder F r h p.0.shared
    holder {s} (x, held, overlap, client, e) = record { seat = s; range = x; held = held; overlap = overlap; client = client; shared = refl }

    pub range_shown : (x : std.Option Holders) → AreBelow most_seats Holder x → HoldRange F r x
    range_shown None none =
        λ x. let y = x.holder in none y.seat (seat_below y.held) _ _ (y.range, y.held, y.overlap, refl, refl)
    range_shown (Some x) (low, of-all) = (held, shared_or_not of-all.fits.2.1.0.shared refl)
      where
        held : RangeHeld F r
        held = record { client = _; shares = _; holder = holder low.fits.2.1 }

        lowest : LowestHolder F r x.lowest.0
        lowest =
            record {
              fits = (_, holder low.fits.2.1);
              least = λ h y. low.least h (y.1.seat, seat_below y.1.held, (_, (y.1.range, y.1.held, y.1.overlap, y.1.client, refl)));
            }

        shared_or_not : (v : Bool) → of-all.fits.2.1.0.shared ≡ v → RangeShown F r x.shown x.lowest.0
        shared_or_not false e =
            one_alone _ (subst (RangeHolder F r _) e (holder of-all.fits.2.1)) (sym of-all.fits.2.1.4 ∙ ap shown e) lowest
        shared_or_not true e = all_share held none_alone all lowest
          where
            all : x.shown ≡ held_bit + shared_bit
            all = sym of-all.fits.2.1.4 ∙ ap shown e

            none_alone : (k : ℕ) → RangeHolder F r k false → ⊥
            none_alone k y =
                let least = of-all.least held_bit (y.seat, seat_below y.held, (k, (y.range, y.held, y.overlap, y.client, ap shown y.shared))) in
                omega (arith, least, all)
