-- The cases by number hold. Assumes nothing.
use Rattle.facts.proofs.Words.{refl, ap, inl, inr, List, [], ◌∷◌, none-ne-some, ℕ, ◌+◌, ◌≤◌, ◌<◌, arith, length}
use Rattle.facts.specs.{Short, BadBase, Exclusive, Facts, Range, IrqGrant, fresh, Apart, type_of, Outcome, Register, Deregister, next_handle}
use Rattle.facts.specs.{registered, AdjustResourceInfo, AdjustIo, Follows, RangeHeld, RangeNext, unheld, first, most_shown, showing_range}
use Rattle.facts_cases.specs.Cases.{Cases}
use Rattle.facts_cases.specs.{Exactly, done, refused, range, managing, ready, two_levels, three_held, both_held, one_sharer, two_sharers, half_held}
use Rattle.facts_cases.specs.{unheld_range, one_client, no_client, client_packet, add_packet, first_packet}
use Rattle.facts.proofs.{register_unique, deregister_unique, sharers_unique, adjust_unique}
use Rattle.facts_cases.proofs.Permitted.{exactly, as_left, as_kept, ◌then◌, ◌nor◌, ◌past◌, listed_alone}
use Rattle.facts_cases.proofs.Ports.{meet_equal, gives_308, half_meets_none, half_leaves_308}
use Rattle.facts_cases.proofs.Levels.{bits-B0, bits-D0, bits-A3, gives_3, gives_5, gives_none, joins_at, none_to_join, held_fits_not}
use Rattle.facts_cases.proofs.Levels.{level_fits, only_grant}

-- AdjustResourceInfo with a short packet for I/O is what AdjustIo says
module _ (F : Facts) (apart : Apart 0 F.ranges) (a b c d e f : ℕ) (action : a ≤ 3) where
  abbrev short_packet : List ℕ
  short_packet = a ∷ 0x01 ∷ b ∷ c ∷ d ∷ e ∷ f ∷ []

  pub adjusts : {o : Outcome} → AdjustIo Short F 1 short_packet o → Exactly (AdjustResourceInfo F 1 short_packet) o
  adjusts r =
      exactly (adjust_unique F 1 short_packet apart)
      (inr (
        (omega arith) then (omega arith) then (omega arith nor omega arith nor omega arith) then (omega arith) then
            (omega arith nor omega arith) then tt,
        inr (refl, Short, refl, r),
      ))

-- N5's packets: up to the base FFF8 the 8 ports are added, past it they are not
adds : (low : ℕ) → low ≤ 0xF8
    → Exactly (AdjustResourceInfo (fresh 2) 1 (add_packet low)) (done 1 (add_packet low) (managing (range (low + 0xFF00) 8) (fresh 2)))
adds low upto =
    adjusts (fresh 2) tt 0x01 low 0xFF 8 0x00 16 (omega arith)
    (inl (
      refl,
      inr (
        ((λ e. e (inl refl)) nor omega arith) then (omega arith nor omega arith) then (omega arith) then (λ e. e.2.listed) then
            (omega arith) then tt,
        (refl, as_left _),
      ),
    ))

adds_not : (low : ℕ) → 0xF8 < low → Exactly (AdjustResourceInfo (fresh 2) 1 (add_packet low)) (refused BadBase (add_packet low) (fresh 2))
adds_not low over =
    adjusts (fresh 2) tt 0x01 low 0xFF 8 0x00 16 (omega arith)
    (inl (
      refl,
      inl (
        ((λ e. e (inl refl)) nor omega arith) past (omega arith nor omega arith) past inl (omega arith, refl),
        as_kept BadBase (add_packet low) (fresh 2),
      ),
    ))

-- First, where one range is managed and not held
only_next : (r : Range) (F : Facts) (action given : ℕ) → Follows action given r.base → RangeNext (managing r F) action given r
only_next r F action given f =
    (inl refl, record { fits = (r, inl refl, refl, f); least = λ b g. omega (arith, g.2, ap (λ (x : Range). x.base) (listed_alone g.1)) })

first_shows : (r : Range) (F : Facts) → r.count ≤ most_shown → (RangeHeld (managing r F) r → ⊥)
    → AdjustIo Short (managing r F) 1 first_packet (done 0 (showing_range Short first_packet r 0) (managing r F))
first_shows r F fits free =
    inr (inr (
      inl refl,
      inr (
        (λ e. e r (inl refl) (inl refl)) then (λ e. omega (arith, e.2, ap (λ (x : Range). x.count) (listed_alone e.1.0))) then tt,
        (
          refl,
          record {
            range = r;
            attributes = 0;
            handle = 0;
            next_is = only_next r F first 0 (inl refl);
            shown = unheld free refl refl;
            leaves = as_left _;
          },
        ),
      ),
    ))

-- a table with room takes N10's client, and without grants and masks it lets it go
pub registers : (F : Facts) → (length F.clients < 16) × (F.issued < 65535)
    → Exactly (Register F 0 client_packet) (done (next_handle F) client_packet (registered F 4 0))
registers F room =
    exactly (register_unique F 0 client_packet)
    (inr (
      (omega arith)
          then (λ e. e (record { bits = omega arith; type = inr (inr refl) }))
          then (λ e. e (omega arith))
          then ((λ e. omega arith) nor (λ e. omega arith))
          then tt,
      (refl, as_left _),
    ))

deregisters : Exactly (Deregister one_client 1 []) (done 1 [] no_client)
deregisters =
    exactly (deregister_unique one_client 1 [])
    (inr (
      (omega arith)
          then (λ e. e (record { client = _; listed = inl refl; handle = refl }))
          then ((λ h. none-ne-some _ h.held) nor (λ h. none-ne-some _ h.live)
          nor (λ h. none-ne-some _ (rw (listed_alone h.2.listed) at h.2.mask)))
          then tt,
      (refl, as_left _),
    ))

pub cases : Cases
cases =
    record {
      n1 = record { one = 0x2F8; other = 0x6F8; one_in = omega arith; other_in = omega arith; equal = refl };
      n2 = λ m. omega (arith, meet_equal (omega arith) (omega arith) m);
      n3 = λ m. omega (arith, meet_equal (omega arith) (omega arith) m);
      n4 = record { one = 0x100; other = 0x200; one_in = omega arith; other_in = omega arith; equal = refl };
      n5 = (adds 0xF8 (omega arith), adds_not 0xF9 (omega arith));
      n6 = (
        gives_3 two_levels.irq 0 0x00 bits-B0 (omega arith) refl refl (none_to_join (λ s. refl)) (level_fits refl refl),
        gives_5 three_held.irq 1 0x00 bits-B0 (omega arith) refl refl (λ l j. j.joining.shares refl)
            (held_fits_not 0 refl refl (λ t. t.shares refl))
            (record {
              named = refl;
              managed = refl;
              free = inl (λ s g h. omega (arith, h.at, ap (λ (x : IrqGrant). x.level) (only_grant 3 Exclusive 5 s g h)));
            }),
        gives_none both_held.irq 2 0x00 bits-B0 (omega arith) refl refl (held_fits_not 0 refl refl (λ t. t.shares refl))
            (held_fits_not 1 refl refl (λ t. t.shares refl)),
      );
      n7 = (
        gives_3 two_levels.irq 0 0x02 bits-A3 (omega arith) refl refl (none_to_join (λ s. refl)) (level_fits refl refl),
        gives_none one_sharer.irq 1 0x01 bits-A3 (omega arith) refl refl (held_fits_not 0 refl refl (λ t. omega (arith, ap type_of t.equal)))
            (λ f. omega (arith, f.named)),
        joins_at 3 bits-A3 refl refl refl,
        exactly (sharers_unique two_sharers 3) (inr (omega arith, (refl, refl))),
      );
      n8 = gives_308 half_held.io (range 0x300 16) 8 (omega arith) refl (omega arith) half_meets_none half_leaves_308;
      n9 =
          gives_308 ready.io (range 0x302 11) 5 (omega arith) refl (omega arith) (λ s g e. absurd (none-ne-some g e))
          (λ b t e inside meets_none. omega arith);
      n10 = (registers (fresh 2) (omega arith), deregisters, registers no_client (omega arith));
      n11 = (
        gives_3 two_levels.irq 0 0x02 bits-B0 (omega arith) refl refl (none_to_join (λ s. refl)) (level_fits refl refl),
        gives_3 two_levels.irq 0 0x02 bits-D0 (omega arith) refl refl (none_to_join (λ s. refl)) (level_fits refl refl),
      );
      n12 =
          adjusts unheld_range (omega arith) 0x02 0x00 0x00 0x00 0x00 0x00 (omega arith)
          (first_shows (range 0x300 16) (fresh 2) (omega arith) (λ h. none-ne-some _ h.holder.held));
    }
