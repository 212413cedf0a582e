-- The level that RequestIRQ gives where levels 3 and 5 are managed: for N6, N7 and N11, and for the cases of K1. Assumes nothing.
use Rattle.facts.proofs.Words.{◌≡◌, refl, sym, ap, ◌∙◌, ◌⊎◌, inl, inr, ⊎_elim, iff_rfl, List, [], true, false≢true, true≢false, Option, none, some}
use Rattle.facts.proofs.Words.{none-ne-some, some-injective, ℕ, ◌<◌, le_refl, arith, eqb}
use Rattle.facts.specs.{BadIrq, Manner, DynamicLevel, Facts, Level, IrqGrant, bit, Lowest, Together, Holds, type_of, Outcome, Passed, socket_of}
use Rattle.facts.specs.{level_added, reserve_bit, Fits, Named, NoLevelFits, NoLevelJoined, LevelTaken, RequestIrq, IrqAttributesBad, IrqInfoBad}
use Rattle.facts.specs.{irq_ahead_checks, level_checks, irq_grant, Joining, Joins, manner_asked_lem, assigning, with_irq, IrqAsked, irq_asked}
use Rattle.facts_cases.specs.{Exactly, done, refused, ready, two_levels, granting_irq, irq_packet}
use Rattle.facts.proofs.{put_is, request_irq_unique}
use Rattle.facts_cases.proofs.Permitted.{exactly, as_left, as_kept, ◌then◌, ◌nor◌, passed-after, given-after, alone_chosen}

-- what is done where the level l is taken
abbrev pub granted : Facts → ℕ → List ℕ → ℕ → Outcome
granted F h p l =
    done h (assigning p l) (with_irq F (socket_of p) (some (irq_grant h (irq_asked p) l)))

module _ (F : Facts) (h : ℕ) (p : List ℕ) (ahead : Passed (irq_ahead_checks F h p [])) where
  irq_done : (l : ℕ) → Fits F (irq_asked p) l → LevelTaken F (irq_asked p) l → Exactly (RequestIrq F h p) (granted F h p l)
  irq_done l fits taken =
      exactly (request_irq_unique F h p)
      (inr (
        passed-after (irq_ahead_checks F h p []) (level_checks F (irq_asked p)) ahead ((λ none_fits. none_fits l fits) then tt),
        (refl, record { level = l; taken = taken; leaves = as_left _ }),
      ))

  irq_refused : NoLevelFits F (irq_asked p) → Exactly (RequestIrq F h p) (refused BadIrq p F)
  irq_refused none_fits =
      exactly (request_irq_unique F h p)
      (inl (given-after (irq_ahead_checks F h p []) (level_checks F (irq_asked p)) BadIrq ahead (inl (none_fits, refl)), as_kept BadIrq p F))

-- a held level doesn't fit a manner that its grant's doesn't go together with
pub held_fits_not : {F : Facts} {p : IrqAsked} {l : ℕ} {g : IrqGrant} (s : ℕ) → F.irq s ≡ some g → g.level ≡ l
    → (Together g.manner p.manner → ⊥) → Fits F p l → ⊥
held_fits_not {g = g} s live at apart f =
    let h : Holds _ _ s g = record { live = live; at = at } in
    ⊎_elim (λ free. free s g h) (λ all. apart (all.1 s g h)) f.free

-- where nobody holds a level there is none to join
pub none_to_join : {F : Facts} {p : IrqAsked} → ((s : ℕ) → F.irq s ≡ none) → NoLevelJoined F p
none_to_join nobody l j = none-ne-some j.grant (sym (nobody j.seat) ∙ j.holds.live)

-- there, one that fits alone is taken
pub alone_taken : {F : Facts} {p : IrqAsked} {l : ℕ} → ((s : ℕ) → F.irq s ≡ none) → Fits F p l → ((k : ℕ) → Fits F p k → k ≡ l) → LevelTaken F p l
alone_taken nobody fits only = inr (none_to_join nobody, alone_chosen fits only)

-- a level that is managed was added, or was managed before
added_managed : (F : Facts) (k a l : ℕ) → ((level_added F k a).level l).managed ≡ true → (l ≡ k) ⊎ ((F.level l).managed ≡ true)
added_managed F k a l m =
    ⊎_elim (λ e. inl e.0) (λ e. inr (sym (ap (λ (v : Level). v.managed) e.1) ∙ m))
    (put_is F.level k (record { managed = true; reserved = eqb a reserve_bit }) l)

-- the levels 3 and 5 added with these attributes, as on N6's table, and the IRQ grants irq
abbrev pub irq_table : ℕ → ℕ → (ℕ → Option IrqGrant) → Facts
irq_table a₃ a₅ irq =
    record {
      sockets = two_levels.sockets;
      card = two_levels.card;
      issued = two_levels.issued;
      clients = two_levels.clients;
      level = (level_added (level_added ready 3 a₃) 5 a₅).level;
      ranges = two_levels.ranges;
      io = two_levels.io;
      irq = irq;
    }

-- IRQInfo1 and the low byte of IRQInfo2, of a card that can share
pub record CardBits (i m : ℕ) : Type 0 where
  pub share : bit i 7 ≡ 1
  pub good : (s t : ℕ) → IrqInfoBad (irq_packet s t 0 i m) → ⊥

pub bits-B0 : CardBits 0xB0 0x28
bits-B0 = record { share = refl; good = λ s t. omega arith nor omega arith nor omega arith }

pub bits-D0 : CardBits 0xD0 0x28
bits-D0 = record { share = refl; good = λ s t. omega arith nor omega arith nor omega arith }

pub bits-A3 : CardBits 0xA3 0x00
bits-A3 = record { share = refl; good = λ s t. omega arith nor omega arith nor omega arith }

-- the attributes of a request, in their low byte: a type alone, or dynamic with First Shared
pub plain_good : (s t i m : ℕ) → t < 3 → bit i 7 ≡ 1 → IrqAttributesBad (irq_packet s t 0 i m) → ⊥
plain_good s t i m small share =
    (λ e. omega arith) nor (λ e. omega arith) nor (λ e. omega arith) nor (λ e. omega arith) nor (λ e. omega arith)

pub first_good : (s i m : ℕ) → bit i 7 ≡ 1 → IrqAttributesBad (irq_packet s 0x0A 0 i m) → ⊥
first_good s i m share =
    (λ e. omega arith) nor (λ e. omega arith) nor (λ e. omega arith) nor (λ e. omega arith) nor (λ e. omega arith)

-- a managed level is 3 or 5
pub managed_are : (a₃ a₅ l : ℕ) → ((level_added (level_added ready 3 a₃) 5 a₅).level l).managed ≡ true → (l ≡ 3) ⊎ (l ≡ 5)
managed_are a₃ a₅ l managed =
    ⊎_elim inr (λ m. ⊎_elim inl (λ m'. absurd (false≢true m')) (added_managed ready 3 a₃ l m))
    (added_managed (level_added ready 3 a₃) 5 a₅ l managed)

-- a request of the socket s, with the attributes t
module _ (a₃ a₅ : ℕ) (irq : ℕ → Option IrqGrant) (s t : ℕ) {i m : ℕ} (bits : CardBits i m) (small : s < 3)
    (good : IrqAttributesBad (irq_packet s t 0 i m) → ⊥) (card : two_levels.card s ≡ true) (free : irq s ≡ none) where
  abbrev table : Facts
  table = irq_table a₃ a₅ irq

  abbrev packet : List ℕ
  packet = irq_packet s t 0 i m

  ahead : Passed (irq_ahead_checks table 1 packet [])
  ahead =
      (omega arith)
      then (λ e. e (record { client = _; listed = inl refl; handle = refl }))
      then ((λ e. omega arith) nor (λ e. omega arith))
      then (λ e. false≢true (sym e ∙ card))
      then good
      then bits.good s t
      then (λ e. e free)
      then tt

  pub given : (l : ℕ) → Fits table (irq_asked packet) l → LevelTaken table (irq_asked packet) l → Exactly (RequestIrq table 1 packet) (granted table 1 packet l)
  given = irq_done _ _ _ ahead

  refuses : (Fits table (irq_asked packet) 3 → ⊥) → (Fits table (irq_asked packet) 5 → ⊥) → Exactly (RequestIrq table 1 packet) (refused BadIrq packet table)
  refuses not-3 not-5 =
      irq_refused _ _ _ ahead (λ l f. ⊎_elim (λ e. not-3 (rw e at f)) (λ e. not-5 (rw e at f)) (managed_are a₃ a₅ l f.managed))

-- N6's table, with the IRQ grants irq, where none is joined: 3 if it fits, else 5 if it fits
abbrev pub irq_two : (ℕ → Option IrqGrant) → Facts
irq_two irq = irq_table 0 reserve_bit irq

module _ {irq : ℕ → Option IrqGrant} {p : IrqAsked} (unjoined : NoLevelJoined (irq_two irq) p) where
  pub three_taken : Fits (irq_two irq) p 3 → LevelTaken (irq_two irq) p 3
  three_taken fits =
      inr (
        unjoined,
        record {
          fits = fits;
          first = λ y f. ⊎_elim (λ e. rw e (inr (iff_rfl, le_refl 3))) (λ e. rw e (inl (refl, true≢false))) (managed_are 0 reserve_bit y f.managed);
        },
      )

  five_taken : (Fits (irq_two irq) p 3 → ⊥) → Fits (irq_two irq) p 5 → LevelTaken (irq_two irq) p 5
  five_taken not-3 fits =
      inr (unjoined, alone_chosen fits (λ y f. ⊎_elim (λ e. absurd (not-3 (rw e at f))) (λ e. e) (managed_are 0 reserve_bit y f.managed)))

-- a request there of the socket s, with the attributes t: 3 if it fits, else 5 if it fits, else BAD_IRQ
module _ (irq : ℕ → Option IrqGrant) (s t : ℕ) {i m : ℕ} (bits : CardBits i m) (small : (s < 3) × (t < 3)) (card : two_levels.card s ≡ true)
    (free : irq s ≡ none) where
  good : IrqAttributesBad (irq_packet s t 0 i m) → ⊥
  good = plain_good s t i m small.1 bits.share

  pub gives_3 : NoLevelJoined (irq_two irq) (irq_asked (irq_packet s t 0 i m)) → Fits (irq_two irq) (irq_asked (irq_packet s t 0 i m)) 3
      → Exactly (RequestIrq (irq_two irq) 1 (irq_packet s t 0 i m)) (granted (irq_two irq) 1 (irq_packet s t 0 i m) 3)
  gives_3 unjoined fits = given 0 reserve_bit irq s t bits small.0 good card free 3 fits (three_taken unjoined fits)

  pub gives_5 : NoLevelJoined (irq_two irq) (irq_asked (irq_packet s t 0 i m)) → (Fits (irq_two irq) (irq_asked (irq_packet s t 0 i m)) 3 → ⊥)
      → Fits (irq_two irq) (irq_asked (irq_packet s t 0 i m)) 5
      → Exactly (RequestIrq (irq_two irq) 1 (irq_packet s t 0 i m)) (granted (irq_two irq) 1 (irq_packet s t 0 i m) 5)
  gives_5 unjoined not-3 fits = given 0 reserve_bit irq s t bits small.0 good card free 5 fits (five_taken unjoined not-3 fits)

  pub gives_none : (Fits (irq_two irq) (irq_asked (irq_packet s t 0 i m)) 3 → ⊥) → (Fits (irq_two irq) (irq_asked (irq_packet s t 0 i m)) 5 → ⊥)
      → Exactly (RequestIrq (irq_two irq) 1 (irq_packet s t 0 i m)) (refused BadIrq (irq_packet s t 0 i m) (irq_two irq))
  gives_none = refuses 0 reserve_bit irq s t bits small.0 good card free

-- before its grants, a level that is named and managed fits; after one on the socket 0, that grant is the only one
free : (l s : ℕ) (g : IrqGrant) → Holds two_levels l s g → ⊥
free l s g h = none-ne-some g h.live

pub level_fits : {p : IrqAsked} {l : ℕ} → Named p l → (two_levels.level l).managed ≡ true → Fits two_levels p l
level_fits {l = l} named managed = record { named = named; managed = managed; free = inl (free l) }

pub only_grant : (k : ℕ) (m : Manner) (l s : ℕ) (g : IrqGrant) → Holds (granting_irq 0 k m two_levels) l s g
    → g ≡ record { client = 1; level = k; manner = m }
only_grant k m l s g h =
    ⊎_elim (λ e. some-injective g _ (sym h.live ∙ e.1)) (λ e. absurd (none-ne-some g (sym e.1 ∙ h.live)))
    (put_is two_levels.irq 0 (some (record { client = 1; level = k; manner = m })) s)

-- the socket 0 shares the level k, which a dynamic request of the socket 1 joins
module _ (k : ℕ) {i m : ℕ} (bits : CardBits i m) (manner : manner_asked_lem (irq_packet 1 0x02 0 i m) ≡ DynamicLevel) (named : Named (irq_asked (irq_packet 1 0x02 0 i m)) k)
    (managed : (two_levels.level k).managed ≡ true) where
  abbrev shared : Facts
  shared = granting_irq 0 k DynamicLevel two_levels

  abbrev request : List ℕ
  request = irq_packet 1 0x02 0 i m

  joining : Joining (irq_asked request)
  joining = record { shares = λ e. omega (arith, ap type_of (sym manner ∙ e)); not_first = refl }

  lowest : Lowest (Joins shared (irq_asked request)) k
  lowest =
      record {
        fits =
            record {
              joining = joining;
              named = named;
              managed = managed;
              seat = 0;
              grant = record { client = 1; level = k; manner = DynamicLevel };
              holds = record { live = refl; at = refl };
              manner = sym manner;
            };
        least = λ y j. omega (arith, j.holds.at, ap (λ (g : IrqGrant). g.level) (only_grant k DynamicLevel y j.seat j.grant j.holds));
      }

  fits : Fits shared (irq_asked request) k
  fits =
      record {
        named = named;
        managed = managed;
        free =
            inr (
              joining.not_first,
              λ s g h. rw (only_grant k DynamicLevel k s g h) (record { equal = sym manner; shares = λ e. omega (arith, ap type_of e) }),
            );
      }

  pub joins_at : Exactly (RequestIrq shared 1 request) (granted shared 1 request k)
  joins_at = given 0 reserve_bit shared.irq 1 0x02 bits (omega arith) (plain_good 1 0x02 i m (omega arith) bits.share) refl refl k fits (inl lowest)
