-- How cards, levels and grants turn: card in and out, Add and Remove of a level, RequestIO and ReleaseIO, RequestIRQ and ReleaseIRQ. Assumes nothing.
use Rattle.facts.proofs.Words.{◌≡◌, refl, ap, sym, ◌∙◌, subst, ◌⊎◌, inl, inr, ◌≢◌, List, Bool, true, Option, none, some, none-ne-some}
use Rattle.facts.proofs.Words.{some-ne-none, some-injective, ℕ, ◌+◌, ◌≤◌, ◌<◌, ℕ_discrete, dec_le, arith, length}
use Rattle.facts.specs.{Manner, Exclusive, TimeMultiplexed, DynamicLevel, DynamicPulse, Facts, Level, IoGrant, IrqGrant, with_word, Outcome, Passed}
use Rattle.facts.specs.{socket_of, with_card, with_level, type_of, GrantsIrq, IrqHeld, with_irq, irq_grant, irq_request_checks, irq_release_checks}
use Rattle.facts.specs.{request_irq_length, own_irq_checks, level_checks, manner_asked_lem, type_asked_lem, with_pulse, assigned_irq, GrantsIo, IoHeld, BaseTaken}
use Rattle.facts.specs.{with_io, io_grant, io_request_checks, io_release_checks, request_io_length, own_io_checks, base_checks, base_asked_lem, count_asked_lem}
use Rattle.facts.specs.{request_irq, release_irq, request_io, release_io, all_ports, io_asked, irq_asked}
use Rattle.facts.proofs.{put_same, told, request_passed}
use Rattle.layout.proofs.{byte_same, word_length, word_low, word_high}
use Rattle.history.specs.{Fact, card, level, io, irq, Made, GivenBack, io_made, irq_made, io_back, irq_back, Tells}
use Rattle.history.proofs.Turns.{Turned, Turns, unissued, by_kind, put_turned}
use Rattle.history.proofs.Inverse.{io_only, irq_only, release_io_makes_none, release_irq_makes_none, io_back_only, irq_back_only}
use Rattle.history.proofs.Inverse.{request_io_keeps, request_irq_keeps}

-- one of them is put in its place: what holds there is enough
module _ (F : Facts) (k : ℕ) (Back New : Fact → Type 0) where
  pub card_turns : (v : Bool) → ((f : Fact) → New f → Tells (with_card F k v) f) → ((f : Fact) → Back f → Tells (with_card F k v) f → ⊥)
      → (F.card k ≡ true → Back (card k) ⊎ (v ≡ true)) → (v ≡ true → New (card k) ⊎ (F.card k ≡ true)) → Turns Back New 0 F (with_card F k v)
  card_turns v made gone back new =
      unissued refl refl made gone
      (by_kind (Turned F (with_card F k v) Back New) (λ h a m. (inr, inr)) (λ h s m. (inr, inr)) (λ l r. (inr, inr)) (λ r. (inr, inr))
      (put_turned F.card k v true (λ (s : ℕ). Back (card s)) (λ (s : ℕ). New (card s)) back new) (λ s g. (inr, inr)) (λ s g. (inr, inr)))

  pub level_turns : (v : Level) → ((f : Fact) → New f → Tells (with_level F k v) f) → ((f : Fact) → Back f → Tells (with_level F k v) f → ⊥)
      → ((r : Bool) → Tells F (level k r) → Back (level k r) ⊎ (v ≡ record { managed = true; reserved = r }))
      → ((r : Bool) → v ≡ record { managed = true; reserved = r } → New (level k r) ⊎ Tells F (level k r)) → Turns Back New 0 F (with_level F k v)
  level_turns v made gone back new =
      unissued refl refl made gone
      (by_kind (Turned F (with_level F k v) Back New) (λ h a m. (inr, inr)) (λ h s m. (inr, inr))
      (λ l r. put_turned F.level k v (record { managed = true; reserved = r }) (λ (s : ℕ). Back (level s r)) (λ (s : ℕ). New (level s r))
      (back r) (new r) l)
      (λ r. (inr, inr)) (λ s. (inr, inr)) (λ s g. (inr, inr)) (λ s g. (inr, inr)))

  pub io_turns : (x : Option IoGrant) → ((f : Fact) → New f → Tells (with_io F k x) f) → ((f : Fact) → Back f → Tells (with_io F k x) f → ⊥)
      → ((g : IoGrant) → F.io k ≡ some g → Back (io k g) ⊎ (x ≡ some g)) → ((g : IoGrant) → x ≡ some g → New (io k g) ⊎ (F.io k ≡ some g))
      → Turns Back New 0 F (with_io F k x)
  io_turns x made gone back new =
      unissued refl refl made gone
      (by_kind (Turned F (with_io F k x) Back New) (λ h a m. (inr, inr)) (λ h s m. (inr, inr)) (λ l r. (inr, inr)) (λ r. (inr, inr))
      (λ s. (inr, inr))
      (λ s g. put_turned F.io k x (some g) (λ (t : ℕ). Back (io t g)) (λ (t : ℕ). New (io t g)) (back g) (new g) s) (λ s g. (inr, inr)))

  pub irq_turns : (x : Option IrqGrant) → ((f : Fact) → New f → Tells (with_irq F k x) f) → ((f : Fact) → Back f → Tells (with_irq F k x) f → ⊥)
      → ((g : IrqGrant) → F.irq k ≡ some g → Back (irq k g) ⊎ (x ≡ some g)) → ((g : IrqGrant) → x ≡ some g → New (irq k g) ⊎ (F.irq k ≡ some g))
      → Turns Back New 0 F (with_irq F k x)
  irq_turns x made gone back new =
      unissued refl refl made gone
      (by_kind (Turned F (with_irq F k x) Back New) (λ h a m. (inr, inr)) (λ h s m. (inr, inr)) (λ l r. (inr, inr)) (λ r. (inr, inr))
      (λ s. (inr, inr)) (λ s g. (inr, inr))
      (λ s g. put_turned F.irq k x (some g) (λ (t : ℕ). Back (irq t g)) (λ (t : ℕ). New (irq t g)) (back g) (new g) s))

-- what is none is no grant
unless : {A B : Type 0} {x : Option A} {g : A} → (x ≢ none → ⊥) → x ≡ some g → B
unless {g = g} free e = absurd (free (λ n. some-ne-none g (sym e ∙ n)))

-- a number of two bytes reads back
word_back : (p : List ℕ) (n : ℕ) → 3 < length p → n < 65536 → base_asked_lem (with_word p 2 n) ≡ n
word_back p n l s = omega (arith, word_low p 2 n (omega arith), word_high p 2 n (omega arith))

-- what a release that passes its checks finds: the client holds what it names
module _ (F : Facts) (h : ℕ) (p : List ℕ) where
  io_release_passed : Passed (io_release_checks F h p) → (IoHeld F h (socket_of p) (base_asked_lem p) (count_asked_lem p) → ⊥) → ⊥
  io_release_passed (sized, (live, (socket, (size, (held, end))))) = held

  irq_release_passed : Passed (irq_release_checks F h p)
      → ((((g : IrqGrant) → IrqHeld F h (socket_of p) (assigned_irq p) g → ⊥) → ⊥)
      × ((g : IrqGrant) × IrqHeld F h (socket_of p) (assigned_irq p) g × (type_of g.manner ≢ type_asked_lem p) → ⊥))
  irq_release_passed (sized, (live, (socket, (held, (type, end))))) = (held, type)

module _ (F : Facts) (h : ℕ) (p : List ℕ) (o : Outcome) where
  -- the base that a granted RequestIO writes is the one that is taken
  pub base_answered : Passed (io_request_checks F h p) → (granted : GrantsIo F h p o) → base_asked_lem o.packet ≡ granted.base
  base_answered passed granted = ap base_asked_lem granted.leaves.packet ∙ word_back p granted.base (omega (arith, size)) (small granted.taken)
    where
      own : Passed (own_io_checks F p (base_checks F (io_asked p)))
      own = request_passed request_io_length F h p (own_io_checks F p (base_checks F (io_asked p))) passed

      size : length p ≡ request_io_length
      size = told (ℕ_discrete (length p) request_io_length) passed.0

      port : 1 ≤ count_asked_lem p
      port = told (dec_le 1 (count_asked_lem p)) (λ d. own.1.0 (inl (omega arith)))

      small : BaseTaken F (io_asked p) granted.base → granted.base < all_ports
      small (inl named) =
          omega (arith, port, named.1, told (dec_le (base_asked_lem p + count_asked_lem p) all_ports) (λ d. own.1.1.1.0 (named.0, inl (omega arith))))
      small (inr chosen) = omega (arith, port, chosen.1.fits.within)

  pub request_io_turns : Passed (io_request_checks F h p) → GrantsIo F h p o
      → Turns (GivenBack h p request_io) (Made h p o.handle o.packet request_io) 0 F o.facts
  request_io_turns passed granted =
      subst (Turns (GivenBack h p request_io) (Made h p o.handle o.packet request_io) 0 F) (sym granted.leaves.facts)
      (io_turns F (socket_of p) _ _ (some new) (io_only _ (put_same F.io (socket_of p) (some new) ∙ ap (λ (b : ℕ). some (io_grant h (io_asked p) b)) (sym answered)))
      (request_io_keeps _) (λ g e. unless own.1.1.0 e)
      (λ g e. inl (subst (λ (x : IoGrant). Made h p o.handle o.packet request_io (io (socket_of p) x))
      (ap (io_grant h (io_asked p)) answered ∙ some-injective new g e) io_made)))
    where
      new : IoGrant
      new = io_grant h (io_asked p) granted.base

      own : Passed (own_io_checks F p (base_checks F (io_asked p)))
      own = request_passed request_io_length F h p (own_io_checks F p (base_checks F (io_asked p))) passed

      answered : base_asked_lem o.packet ≡ granted.base
      answered = base_answered passed granted

  pub release_io_turns : Passed (io_release_checks F h p)
      → Turns (GivenBack h p release_io) (Made h p o.handle o.packet release_io) 0 F (with_io F (socket_of p) none)
  release_io_turns passed =
      io_turns F (socket_of p) _ _ none (release_io_makes_none _)
      (io_back_only _ (λ g client base count e. none-ne-some g (sym (put_same F.io (socket_of p) none) ∙ e)))
      (λ g e. inl (io_back (own g e (λ x. x.client) h (λ held. held.client)) (own g e (λ x. x.ports.base) (base_asked_lem p) (λ held. held.base_is))
      (own g e (λ x. x.ports.count) (count_asked_lem p) (λ held. held.count_is))))
      (λ g e. absurd (none-ne-some g e))
    where
      Holds : Type 0
      Holds = IoHeld F h (socket_of p) (base_asked_lem p) (count_asked_lem p)

      -- the grant that stands there is the one that the client holds
      own : (g : IoGrant) → F.io (socket_of p) ≡ some g → (number : IoGrant → ℕ) (n : ℕ) → ((held : Holds) → number held.range ≡ n) → number g ≡ n
      own g e number n is =
          told (ℕ_discrete (number g) n)
          (λ d. io_release_passed F h p passed (λ held. d (ap number (some-injective g held.range (sym e ∙ held.held)) ∙ is held)))

  -- the level that a granted RequestIRQ writes is the one that is taken
  pub level_answered : Passed (irq_request_checks F h p) → (granted : GrantsIrq F h p o) → assigned_irq o.packet ≡ granted.level
  level_answered passed granted =
      ap assigned_irq granted.leaves.packet
      ∙ byte_same (with_pulse (manner_asked_lem p) p) 4 granted.level (omega (arith, size, pulse_length (manner_asked_lem p)))
    where
      size : length p ≡ request_irq_length
      size = told (ℕ_discrete (length p) request_irq_length) passed.0

      pulse_length : (m : Manner) → length (with_pulse m p) ≡ length p
      pulse_length Exclusive = refl
      pulse_length TimeMultiplexed = refl
      pulse_length DynamicLevel = refl
      pulse_length DynamicPulse = word_length p 2 _

  pub request_irq_turns : Passed (irq_request_checks F h p) → GrantsIrq F h p o
      → Turns (GivenBack h p request_irq) (Made h p o.handle o.packet request_irq) 0 F o.facts
  request_irq_turns passed granted =
      subst (Turns (GivenBack h p request_irq) (Made h p o.handle o.packet request_irq) 0 F) (sym granted.leaves.facts)
      (irq_turns F (socket_of p) _ _ (some new) (irq_only _ (put_same F.irq (socket_of p) (some new) ∙ ap (λ (l : ℕ). some (irq_grant h (irq_asked p) l)) (sym answered)))
      (request_irq_keeps _) (λ g e. unless own.1.1.0 e)
      (λ g e. inl (subst (λ (x : IrqGrant). Made h p o.handle o.packet request_irq (irq (socket_of p) x))
      (ap (irq_grant h (irq_asked p)) answered ∙ some-injective new g e) irq_made)))
    where
      new : IrqGrant
      new = irq_grant h (irq_asked p) granted.level

      own : Passed (own_irq_checks F p (level_checks F (irq_asked p)))
      own = request_passed request_irq_length F h p (own_irq_checks F p (level_checks F (irq_asked p))) passed

      answered : assigned_irq o.packet ≡ granted.level
      answered = level_answered passed granted

  pub release_irq_turns : Passed (irq_release_checks F h p)
      → Turns (GivenBack h p release_irq) (Made h p o.handle o.packet release_irq) 0 F (with_irq F (socket_of p) none)
  release_irq_turns passed =
      irq_turns F (socket_of p) _ _ none (release_irq_makes_none _)
      (irq_back_only _ (λ g client level type e. none-ne-some g (sym (put_same F.irq (socket_of p) none) ∙ e)))
      (λ g e. inl (irq_back (held g e).client (held g e).level (told (ℕ_discrete (type_of g.manner) (type_asked_lem p)) (λ d. checks.1 (g, held g e, d)))))
      (λ g e. absurd (none-ne-some g e))
    where
      Holds : IrqGrant → Type 0
      Holds = IrqHeld F h (socket_of p) (assigned_irq p)

      checks : ((((g : IrqGrant) → Holds g → ⊥) → ⊥) × ((g : IrqGrant) × Holds g × (type_of g.manner ≢ type_asked_lem p) → ⊥))
      checks = irq_release_passed F h p passed

      -- the grant that stands there is the one that the client holds
      own : (g : IrqGrant) → F.irq (socket_of p) ≡ some g → (number : IrqGrant → ℕ) (n : ℕ) → ((x : IrqGrant) → Holds x → number x ≡ n) → number g ≡ n
      own g e number n is =
          told (ℕ_discrete (number g) n) (λ d. checks.0 (λ x holds. d (ap number (some-injective g x (sym e ∙ holds.live)) ∙ is x holds)))

      held : (g : IrqGrant) → F.irq (socket_of p) ≡ some g → Holds g
      held g e =
          record {
            live = e;
            client = own g e (λ x. x.client) h (λ x holds. holds.client);
            level = own g e (λ x. x.level) (assigned_irq p) (λ x holds. holds.level);
          }
