-- Wrong keepers whose grants meet: they make every check but one, as they should. Assumes nothing.
use Rattle.facts.proofs.Words.{◌≡◌, refl, ap, sym, ◌∙◌, subst, ◌⊎◌, inl, inr, ⊎_elim, ◌≢◌, List, [], ◌∷◌, ◌++◌, append_assoc, true, true≢false, T}
use Rattle.facts.proofs.Words.{false≢true, some, none-ne-some, some-injective, ℕ, ◌+◌, ◌*◌, ◌^◌, ◌≤◌, ◌<◌, ℕ_discrete, arith, length}
use Rattle.facts.specs.{Code, Success, BadBase, Exclusive, Facts, Range, IoGrant, IrqGrant, ◌∈◌, with_word, Meet, Overlap, Managed, Together, Holds}
use Rattle.facts.specs.{type_of, Check, ◌gives◌, Passed, socket_of, RequestIrq, IrqAttributesBad, IrqInfoBad, Fits, Mask, irq_ahead_checks, with_irq}
use Rattle.facts.specs.{irq_grant, level_asked_lem, manner_asked_lem, assigning, assigned_irq, RequestIo, IoAttributesBad, IoSizeBad, NotAllManaged}
use Rattle.facts.specs.{io_ahead_checks, with_io, io_grant, base_asked_lem, count_asked_lem, ports_at, Service, request_irq, request_io, service_number}
use Rattle.facts.specs.{io_asked, irq_asked, Named}
use Rattle.facts.proofs.{put_is, number_injective, one_named, named_one}
use Rattle.layout.specs.{image}
use Rattle.facts_cases.specs.{done, range, irq_packet}
use Rattle.facts_cases.proofs.{cases, bits-A3, alone_taken, as_left, ◌then◌, ◌nor◌}
use Rattle.history.specs.{Event, call, Keeper, Ours, Fact, Makes, GivenBack, GivesBack, io_made, irq_made, PortsApart, LevelsApart}
use Rattle.history.specs.Stands.{Stands}
use Rattle.history.proofs.Turns.{client_in}
use Rattle.history.proofs.Inverse.{request_io_keeps, request_irq_keeps}
use Rattle.history.proofs.Giving.{all_bytes, serves}
use Rattle.history.proofs.OnSockets.{for, own_passed, irq_requests, io_requests}
use Rattle.history.proofs.SampleRuns.{before, registers, pair, pair_formed, pair_ready, BeginsAlike, set_up_two}
use Rattle.history.proofs.Wrong.{At}

-- a keeper that does as this one, or grants where it shouldn't
abbrev Also : Service → (ℕ → List ℕ → Code → ℕ → List ℕ → List ℕ → List ℕ → Type 0) → Keeper
Also v W = At v λ h p k a q b b'. Ours (call (service_number v) h p k a q) b b' ⊎ W h p k a q b b'

as_ours : (v : Service) (W : ℕ → List ℕ → Code → ℕ → List ℕ → List ℕ → List ℕ → Type 0) {b b' : List ℕ} (n h : ℕ) (p : List ℕ) (k : Code) (a : ℕ) (q : List ℕ)
    → Ours (call n h p k a q) b b' → Also v W (call n h p k a q) b b'
as_ours v W {b} {b'} n h p k a q s = same_or_not (ℕ_discrete n (service_number v))
  where
    same_or_not : Dec (n ≡ service_number v) → Also v W (call n h p k a q) b b'
    same_or_not (yes e) = inl (e, inl (subst (λ (m : ℕ). Ours (call m h p k a q) b b') e s))
    same_or_not (no d) = inr (d, s)

also_begins : (v : Service) (W : ℕ → List ℕ → Code → ℕ → List ℕ → List ℕ → List ℕ → Type 0) → BeginsAlike (Also v W)
also_begins v W =
    record { makes = λ n k F G w free s. s; calls = λ n h p k a q F G w free s. as_ours v W n h p k a q s; cards = λ t k F G w free s. s }

-- the clients 1 and 2 ask, one after the other: what each of the two events made stands
module _ (es : List Event) (one other : Event) (f : Fact) where
  pub first_stands : Makes one f → (GivesBack other f → ⊥) → Stands (es ++ (one ∷ other ∷ [])) f
  first_stands made kept =
      record {
        earlier = es;
        maker = one;
        later = other ∷ [];
        are = refl;
        made = made;
        lasts = λ e i back. ⊎_elim (λ same. kept (subst (λ (x : Event). GivesBack x f) same back)) absurd i;
      }

  pub second_stands : Makes other f → Stands (es ++ (one ∷ other ∷ [])) f
  second_stands made =
      record {
        earlier = es ++ (one ∷ []);
        maker = other;
        later = [];
        are = sym (append_assoc es (one ∷ []) (other ∷ []));
        made = made;
        lasts = λ e i. absurd i;
      }

-- a call that gives nothing back
pub keeps_all : (v : Service) (h : ℕ) (p : List ℕ) (k : Code) (a : ℕ) (q : List ℕ) → ((f : Fact) → GivenBack h p v f → ⊥) → (f : Fact)
    → GivesBack (call (service_number v) h p k a q) f → ⊥
keeps_all v h p k a q keeps f b = keeps f (subst (λ (x : Service). GivenBack h p x f) (number_injective b.1 v b.2) b.3)

-- ports at a named base that pass every check but for the live grants are granted where Joins holds of what is asked for and each of those
abbrev managed_checks : Facts → List ℕ → List Check
managed_checks F p = (((base_asked_lem p ≢ 0) × NotAllManaged F (io_asked p)) gives BadBase) ∷ []

abbrev WronglyIo : (List ℕ → IoGrant → Type 0) → ℕ → List ℕ → Code → ℕ → List ℕ → List ℕ → List ℕ → Type 0
WronglyIo Joins h p k a q b b' =
    (F : Facts) × (b ≡ image F) × Passed (io_ahead_checks F h p (managed_checks F p)) × (base_asked_lem p ≢ 0)
    × ((s : ℕ) (g : IoGrant) → F.io s ≡ some g → Joins p g) × (k ≡ Success) × (a ≡ h) × (q ≡ p)
    × (b' ≡ image (with_io F (socket_of p) (some (io_grant h (io_asked p) (base_asked_lem p)))))

-- "Comparing ports without the decoded lines"
abbrev NoLines : Keeper
NoLines = Also request_io (WronglyIo λ p g. Overlap (base_asked_lem p) (count_asked_lem p) g.ports.base g.ports.count → ⊥)

-- ports are shared that only the second of two asked to share, or only the first
abbrev SecondShares : Keeper
SecondShares = Also request_io (WronglyIo λ p g. (io_asked p).shared ≡ true)

abbrev FirstShares : Keeper
FirstShares = Also request_io (WronglyIo λ p g. g.shared ≡ true)

-- the table on which the client h has the ports that a packet asks for
abbrev pub io_also : Facts → ℕ → List ℕ → Facts
io_also F h p = with_io F (socket_of p) (some (io_grant h (io_asked p) (base_asked_lem p)))

-- two sockets ask for ports, each for a client of its own, and the second is granted them beside the first
two_ports : (Joins : List ℕ → IoGrant → Type 0) (p p' : List ℕ) → T (all_bytes p) → RequestIo pair 1 p (done 1 p (io_also pair 1 p))
    → Passed (io_ahead_checks (io_also pair 1 p) 2 p' (managed_checks (io_also pair 1 p) p')) → base_asked_lem p' ≢ 0 → Joins p' (io_grant 1 (io_asked p) (base_asked_lem p))
    → Meet (ports_at (io_asked p) (base_asked_lem p)) (ports_at (io_asked p') (base_asked_lem p')) → PortsApart (Also request_io (WronglyIo Joins))
    → ((io_asked p).shared ≡ true) × ((io_asked p').shared ≡ true)
two_ports Joins p p' bytes granted passed named joins meet x =
    x 2 (before ++ (registers 2 ∷ one ∷ other ∷ [])) (image both) (socket_of p) (socket_of p') (io_grant 1 (io_asked p) (base_asked_lem p)) (io_grant 2 (io_asked p') (base_asked_lem p'))
    (set_up_two (Also request_io (WronglyIo Joins)) (also_begins request_io (WronglyIo Joins)) (one ∷ other ∷ []) (image both) (
      tt,
      image (io_also pair 1 p),
      inl (refl, inl (serves pair_formed request_io 1 p (done 1 p (io_also pair 1 p)) bytes granted)),
      (tt, image both, inl (refl, inr (io_also pair 1 p, refl, passed, named, held, refl, refl, refl, refl)), refl),
    ))
    (first_stands (before ++ (registers 2 ∷ [])) one other _ (refl, request_io, refl, io_made)
    (keeps_all request_io 2 p' Success 2 p' (request_io_keeps (λ (f : Fact). ⊥)) _))
    (second_stands (before ++ (registers 2 ∷ [])) one other _ (refl, request_io, refl, io_made)) (λ e. omega (arith, ap client_in e)) meet
  where
    one : Event
    one = call (service_number request_io) 1 p Success 1 p

    other : Event
    other = call (service_number request_io) 2 p' Success 2 p'

    both : Facts
    both = io_also (io_also pair 1 p) 2 p'

    held : (s : ℕ) (g : IoGrant) → (io_also pair 1 p).io s ≡ some g → Joins p' g
    held s g e =
        ⊎_elim (λ k. subst (Joins p') (some-injective _ g (sym k.1 ∙ e)) joins) (λ k. absurd (none-ne-some g (sym k.1 ∙ e)))
        (put_is pair.io (socket_of p) (some (io_grant 1 (io_asked p) (base_asked_lem p))) s)

-- all ports are managed, so that a base that is named is, and wherever its card answers
all_managed : (F : Facts) → F.ranges ≡ pair.ranges → (p : List ℕ) → base_asked_lem p + count_asked_lem p ≤ 0x10000 → NotAllManaged F (io_asked p) → ⊥
all_managed F e p below =
    (λ l. omega (arith, l, below)) nor (λ u. u (λ x w. managed x (omega (arith, w.below, below)))) nor (λ u. u (λ x a. managed x a.below))
  where
    managed : (x : ℕ) → x < 0x10000 → Managed F x
    managed x l =
        record {
          range = range 0 0x10000;
          listed = subst (λ (rs : List Range). range 0 0x10000 ∈ rs) (sym e) (inl refl);
          has = record { from = omega arith; below = l };
        }

-- a packet in order, past socket and function, that names ports
pub record NamesPorts (s : ℕ) (q : List ℕ) : Type 0 where
  pub size : length q ≡ 9
  pub attributes : IoAttributesBad (for s q) → ⊥
  pub sizes : IoSizeBad (for s q) → ⊥
  pub from : 1 ≤ base_asked_lem (for s q)
  pub below : base_asked_lem (for s q) + count_asked_lem (for s q) ≤ 0x10000

-- the first of them is granted, on the socket 0
pub first_granted : (q : List ℕ) → NamesPorts 0 q → with_word (for 0 q) 2 (base_asked_lem (for 0 q)) ≡ for 0 q
    → RequestIo pair 1 (for 0 q) (done 1 (for 0 q) (io_also pair 1 (for 0 q)))
first_granted q n kept =
    inr (
      own_passed io_requests pair_ready q n.size
          (true≢false
          then n.attributes
          then n.sizes
          then (λ e. e refl)
          then (λ e. all_managed pair refl (for 0 q) n.below e.1)
          then (λ e. none-ne-some _ e.1.held)
          then (λ e. omega (arith, e.0, n.from))
          then tt),
      (
        refl,
        record { base = _; taken = inl ((λ e. omega (arith, e, n.from)), refl); leaves = record { handle = refl; packet = sym kept; facts = refl } },
      ),
    )

-- the second passes the checks, on the socket 1
second_passes : (q q' : List ℕ) → NamesPorts 1 q'
    → Passed (io_ahead_checks (io_also pair 1 (for 0 q)) 2 (for 1 q') (managed_checks (io_also pair 1 (for 0 q)) (for 1 q')))
second_passes q q' n =
    (λ e. e (omega (arith, n.size)))
    then (λ e. e (record { client = _; listed = inr (inl refl); handle = refl }))
    then ((omega arith) nor (λ e. e refl))
    then true≢false
    then n.attributes
    then n.sizes
    then (λ e. e refl)
    then (λ e. all_managed (io_also pair 1 (for 0 q)) refl (for 1 q') n.below e.1)
    then tt

-- packets of eight ports, past socket and function: at a base, with attributes and lines; Shared or not
abbrev pub eight : ℕ → ℕ → ℕ → ℕ → List ℕ
eight low high attributes lines = low ∷ high ∷ 8 ∷ attributes ∷ 0 ∷ 0 ∷ 0 ∷ 0 ∷ lines ∷ []

pub eight_names : (s low high attributes lines : ℕ) → attributes ≤ 1 → 1 ≤ lines → lines ≤ 16 → 8 ≤ 2 ^ lines → 1 ≤ low + 256 * high
    → low + 256 * high + 8 ≤ 0x10000 → NamesPorts s (eight low high attributes lines)
eight_names s low high attributes lines a one most power from below =
    record {
      size = refl;
      attributes = (λ e. omega (arith, e, a)) nor (λ e. omega (arith, e.0, a)) nor (λ e. omega (arith, e, one)) nor (λ e. omega (arith, e, most));
      sizes = omega arith nor (λ e. omega (arith, e, power)) nor omega arith;
      from = from;
      below = below;
    }

-- 2F8 at ten lines, and then 6F8 at sixteen
pub no_lines_wrong : PortsApart NoLines → ⊥
no_lines_wrong x =
    let one = eight 0xF8 0x02 0 10 in
    let other = eight 0xF8 0x06 0 16 in
    let names = eight_names 0 0xF8 0x02 0 10 (omega arith) (omega arith) (omega arith) (omega arith) (omega arith) (omega arith) in
    let names' = eight_names 1 0xF8 0x06 0 16 (omega arith) (omega arith) (omega arith) (omega arith) (omega arith) (omega arith) in
    false≢true
    (two_ports _ (for 0 one) (for 1 other) tt (first_granted one names refl) (second_passes one other names') (omega arith)
    (λ o. omega (arith, o.one, o.other)) cases.n1 x).0

-- 300 to 307, which each of the two asks to share or not
at_300 : (Joins : List ℕ → IoGrant → Type 0) (a a' : ℕ) → a ≤ 1 → a' ≤ 1 → T (all_bytes (for 0 (eight 0x00 0x03 a 16)))
    → Joins (for 1 (eight 0x00 0x03 a' 16)) (io_grant 1 (io_asked (for 0 (eight 0x00 0x03 a 16))) 0x300) → PortsApart (Also request_io (WronglyIo Joins))
    → ((io_asked (for 0 (eight 0x00 0x03 a 16))).shared ≡ true) × ((io_asked (for 1 (eight 0x00 0x03 a' 16))).shared ≡ true)
at_300 Joins a a' l l' bytes joins =
    let names = eight_names 0 0x00 0x03 a 16 l (omega arith) (omega arith) (omega arith) (omega arith) (omega arith) in
    let names' = eight_names 1 0x00 0x03 a' 16 l' (omega arith) (omega arith) (omega arith) (omega arith) (omega arith) in
    two_ports Joins (for 0 (eight 0x00 0x03 a 16)) (for 1 (eight 0x00 0x03 a' 16)) bytes (first_granted (eight 0x00 0x03 a 16) names refl)
    (second_passes (eight 0x00 0x03 a 16) (eight 0x00 0x03 a' 16) names') (omega arith) joins
    (record { one = 0x300; other = 0x300; one_in = omega arith; other_in = omega arith; equal = refl })

pub second_shares_wrong : PortsApart SecondShares → ⊥
second_shares_wrong x = false≢true (at_300 _ 0 1 (omega arith) (omega arith) tt refl x).0

pub first_shares_wrong : PortsApart FirstShares → ⊥
first_shares_wrong x = false≢true (at_300 _ 1 0 (omega arith) (omega arith) tt refl x).1

-- a level that is named and managed, whose request passes every check ahead of the fit, is granted where Joins holds
abbrev WronglyIrq : (Facts → List ℕ → Type 0) → ℕ → List ℕ → Code → ℕ → List ℕ → List ℕ → List ℕ → Type 0
WronglyIrq Joins h p k a q b b' =
    (F : Facts) × (b ≡ image F) × Passed (irq_ahead_checks F h p []) × (Mask p → ⊥) × ((F.level (level_asked_lem p)).managed ≡ true) × Joins F p
    × (k ≡ Success) × (a ≡ h) × (q ≡ assigning p (level_asked_lem p)) × (b' ≡ image (with_irq F (socket_of p) (some (irq_grant h (irq_asked p) (level_asked_lem p)))))

-- "Letting Exclusive join a shared level when its count is one"
abbrev JoinsOne : Keeper
JoinsOne = Also request_irq (WronglyIrq λ F p. (s t : ℕ) (g g' : IrqGrant) → Holds F (level_asked_lem p) s g → Holds F (level_asked_lem p) t g' → s ≡ t)

-- all that share go together
abbrev AnySharing : Keeper
AnySharing = Also request_irq (WronglyIrq λ F p. (manner_asked_lem p ≢ Exclusive) × ((s : ℕ) (g : IrqGrant) → Holds F (level_asked_lem p) s g → g.manner ≢ Exclusive))

-- equal manners go together, exclusive too
abbrev EqualManners : Keeper
EqualManners = Also request_irq (WronglyIrq λ F p. (s : ℕ) (g : IrqGrant) → Holds F (level_asked_lem p) s g → g.manner ≡ manner_asked_lem p)

-- RequestIRQ's packet that names the level 3 alone: the socket, the attributes' low byte, IRQInfo1
abbrev asking : ℕ → ℕ → ℕ → List ℕ
asking s t i = irq_packet s t 0 i 0

-- the table on which the client h has the level 3 as a packet asks for it
abbrev irq_also : Facts → ℕ → List ℕ → Facts
irq_also F h p = with_irq F (socket_of p) (some (irq_grant h (irq_asked p) 3))

-- a request for the level 3 that passes the checks of its packet
pub record AsksThree (s t i : ℕ) : Type 0 where
  pub attributes : IrqAttributesBad (asking s t i) → ⊥
  pub info : IrqInfoBad (asking s t i) → ⊥
  pub clear : Mask (asking s t i) → ⊥
  pub three : level_asked_lem (asking s t i) ≡ 3
  pub assigned : assigned_irq (assigning (asking s t i) 3) ≡ 3

-- the first, on the socket 0, is granted it
first_three : (t i : ℕ) → AsksThree 0 t i → RequestIrq pair 1 (asking 0 t i) (done 1 (assigning (asking 0 t i) 3) (irq_also pair 1 (asking 0 t i)))
first_three t i a =
    inr (
      own_passed irq_requests pair_ready (t ∷ 0 ∷ 0 ∷ i ∷ 0 ∷ 0 ∷ []) refl (true≢false then a.attributes then a.info then (λ e. e refl) then (λ e. e 3 fits) then tt),
      (
        refl,
        record { level = 3; taken = alone_taken (λ s. refl) fits (λ l f. named_one (asking 0 t i) l a.clear f.named ∙ a.three); leaves = as_left _ },
      ),
    )
  where
    fits : Fits pair (irq_asked (asking 0 t i)) 3
    fits = record { named = subst (Named (irq_asked (asking 0 t i))) a.three (one_named (asking 0 t i) a.clear); managed = refl; free = inl (λ s g h. none-ne-some g h.live) }

module _ (t i : ℕ) where
  only_one : (s : ℕ) (g : IrqGrant) → (irq_also pair 1 (asking 0 t i)).irq s ≡ some g → (s ≡ 0) × (irq_grant 1 (irq_asked (asking 0 t i)) 3 ≡ g)
  only_one s g e =
      ⊎_elim (λ k. (k.0, some-injective _ g (sym k.1 ∙ e))) (λ k. absurd (none-ne-some g (sym k.1 ∙ e)))
      (put_is pair.irq 0 (some (irq_grant 1 (irq_asked (asking 0 t i)) 3)) s)

  -- the second, on the socket 1, passes the checks ahead of the fit
  second_asks : (t' i' : ℕ) → AsksThree 1 t' i' → Passed (irq_ahead_checks (irq_also pair 1 (asking 0 t i)) 2 (asking 1 t' i') [])
  second_asks t' i' a =
      (λ e. e refl)
      then (λ e. e (record { client = _; listed = inr (inl refl); handle = refl }))
      then ((omega arith) nor (λ e. e refl))
      then true≢false
      then a.attributes
      then a.info
      then (λ e. e refl)
      then tt

-- and joins the first, so the two manners would have to go together
two_levels_lem : (Joins : Facts → List ℕ → Type 0) (t i t' i' : ℕ) → AsksThree 0 t i → AsksThree 1 t' i' → T (all_bytes (asking 0 t i))
    → Joins (irq_also pair 1 (asking 0 t i)) (asking 1 t' i') → LevelsApart (Also request_irq (WronglyIrq Joins))
    → Together (manner_asked_lem (asking 0 t i)) (manner_asked_lem (asking 1 t' i'))
two_levels_lem Joins t i t' i' a a' bytes joins x =
    x 2 (before ++ (registers 2 ∷ one ∷ other ∷ [])) (image both) 0 1 _ _
    (set_up_two (Also request_irq (WronglyIrq Joins)) (also_begins request_irq (WronglyIrq Joins)) (one ∷ other ∷ []) (image both) (
      tt,
      image first,
      inl (refl, inl (serves pair_formed request_irq 1 p (done 1 q first) bytes (first_three t i a))),
      (
        tt,
        image both,
        inl (refl, inr (first, refl, second_asks t i t' i' a', a'.clear, ap (λ (l : ℕ). (first.level l).managed) a'.three, joins, refl, refl, refl, refl)),
        refl,
      ),
    ))
    (first_stands (before ++ (registers 2 ∷ [])) one other _ (refl, request_irq, refl, irq_made)
    (keeps_all request_irq 2 p' Success 2 q' (request_irq_keeps (λ (f : Fact). ⊥)) _))
    (second_stands (before ++ (registers 2 ∷ [])) one other _ (refl, request_irq, refl, irq_made)) (λ e. omega (arith, ap client_in e))
    (a.assigned ∙ sym (ap (λ (l : ℕ). assigned_irq (assigning p' l)) a'.three ∙ a'.assigned))
  where
    p : List ℕ
    p = asking 0 t i

    q : List ℕ
    q = assigning (asking 0 t i) 3

    p' : List ℕ
    p' = asking 1 t' i'

    q' : List ℕ
    q' = assigning (asking 1 t' i') (level_asked_lem (asking 1 t' i'))

    one : Event
    one = call (service_number request_irq) 1 (asking 0 t i) Success 1 (assigning (asking 0 t i) 3)

    other : Event
    other = call (service_number request_irq) 2 (asking 1 t' i') Success 2 (assigning (asking 1 t' i') (level_asked_lem (asking 1 t' i')))

    first : Facts
    first = irq_also pair 1 (asking 0 t i)

    both : Facts
    both = with_irq (irq_also pair 1 (asking 0 t i)) 1 (some (irq_grant 2 (irq_asked (asking 1 t' i')) (level_asked_lem (asking 1 t' i'))))

-- dynamic sharing and time-multiplexed, of a card with the Level and Share bits; exclusive, of one with the Level bit
dynamic_three : (s : ℕ) → AsksThree s 0x02 0xA3
dynamic_three s =
    record {
      attributes = omega arith nor omega arith nor omega arith nor omega arith nor (λ e. e.1 refl);
      info = bits-A3.good s 2;
      clear = omega arith;
      three = refl;
      assigned = refl;
    }

multiplexed_three : (s : ℕ) → AsksThree s 0x01 0xA3
multiplexed_three s =
    record {
      attributes = omega arith nor omega arith nor omega arith nor omega arith nor omega arith;
      info = bits-A3.good s 1;
      clear = omega arith;
      three = refl;
      assigned = refl;
    }

exclusive_three : (s : ℕ) → AsksThree s 0x00 0x23
exclusive_three s =
    record {
      attributes = omega arith nor omega arith nor omega arith nor omega arith nor omega arith;
      info = omega arith nor omega arith nor omega arith;
      clear = omega arith;
      three = refl;
      assigned = refl;
    }

pub joins_one_wrong : LevelsApart JoinsOne → ⊥
joins_one_wrong x =
    let t = two_levels_lem _ 0x02 0xA3 0x00 0x23 (dynamic_three 0) (exclusive_three 1) tt
    (λ s t g g' e e'. (only_one 0x02 0xA3 s g e.live).0 ∙ sym (only_one 0x02 0xA3 t g' e'.live).0) x in
    omega (arith, ap type_of t.equal)

pub any_sharing_wrong : LevelsApart AnySharing → ⊥
any_sharing_wrong x =
    let t = two_levels_lem _ 0x02 0xA3 0x01 0xA3 (dynamic_three 0) (multiplexed_three 1) tt (
      (λ e. omega (arith, ap type_of e)),
      (λ s g e. subst (λ (y : IrqGrant). y.manner ≢ Exclusive) (only_one 0x02 0xA3 s g e.live).1 (λ e. omega (arith, ap type_of e))),
    ) x in
    omega (arith, ap type_of t.equal)

pub equal_manners_wrong : LevelsApart EqualManners → ⊥
equal_manners_wrong x =
    (two_levels_lem _ 0x00 0x23 0x00 0x23 (exclusive_three 0) (exclusive_three 1) tt
    (λ s g e. ap (λ (y : IrqGrant). y.manner) (sym (only_one 0x00 0x23 s g e.live).1)) x).shares refl
