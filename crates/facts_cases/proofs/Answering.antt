-- The cases of K2 hold. Assumes nothing.
use Rattle.facts.proofs.Words.{◌≡◌, by_cases, refl, ap, sym, ◌∙◌, subst, ◌⊎◌, inl, inr, ⊎_elim, ◌≢◌, iff_rfl, true, true≢false, some}
use Rattle.facts.proofs.Words.{none-ne-some, some-injective, ℕ, ◌+◌, ◌*◌, ◌%◌, ◌≤◌, ◌<◌, le_refl, dec_lt, arith, WellFormed}
use Rattle.facts.specs.{InUse, ◌∈◌, Facts, Range, IoGrant, IoFits, Within, Managed, Answers, WhollyUnreserved, RangeAnswered, Candidate, NoCandidate}
use Rattle.facts.specs.{CandidateTaken, SmallestPower, io_asked}
use Rattle.facts.proofs.{fresh_formed, card_formed, ranges_formed, io_formed, register_stays, smallest_power_unique}
use Rattle.facts_cases.specs.{done, ports, range, ready, granting_io, client_packet, AnsweringCases, boards_ports, all_added, alike, lines_packet}
use Rattle.facts_cases.specs.{remove_packet}
use Rattle.facts_cases.proofs.Ports.{eight, at_home, named_refused, named_granted, first_given, none_refused}
use Rattle.facts_cases.proofs.Cases.{adjusts, registers}
use Rattle.facts_cases.proofs.Permitted.{as_kept, ◌nor◌, ◌past◌}

-- 2F8 to 2FF lie in none of the ranges
board_unmanaged : (F : Facts) → F.ranges ≡ boards_ports.ranges → Managed F 0x2F8 → ⊥
board_unmanaged F e m =
    ⊎_elim (λ e. omega (arith, (rw e at m.has).below)) (⊎_elim (λ e. omega (arith, (rw e at m.has).from)) absurd) (rw e at m.listed)

-- a card of ten lines that is given 6F8 answers there
six_answers : Answers (ports 0x6F8 8 10) 0x2F8
six_answers = record { below = omega arith; own = 0x6F8; own_in = omega arith; equal = refl }

-- every port lies in one of the three, once they are added
all_managed : (q : ℕ) → q < 0x10000 → Managed all_added q
all_managed q l =
    by_cases (dec_lt q 0x2F8) (λ a. record { range = range 0 0x2F8; listed = inl refl; has = omega arith })
    (λ a. by_cases (dec_lt q 0x300)
    (λ d. record { range = range 0x2F8 8; listed = inr (inl refl); has = omega arith })
    (λ d. record { range = range 0x300 0xFD00; listed = inr (inr (inl refl)); has = omega arith }))

-- the ports from 300 on are managed in both
upper_managed : (q : ℕ) → 0x300 ≤ q → q < 0x10000 → Managed boards_ports q
upper_managed q l h = record { range = range 0x300 0xFD00; listed = inr (inl refl); has = omega arith }

-- on `alike` the card answers at managed ports alone, wherever it is given its own
low_or_high : (q own : ℕ) → q < 0x10000 → q % 0x8000 ≡ own % 0x8000 → (0x300 ≤ own % 0x8000) × (own % 0x8000 < 0x310)
    → ((0x300 ≤ q) × (q < 0x310)) ⊎ ((0x8300 ≤ q) × (q < 0x8310))
low_or_high q own l e h =
    by_cases (dec_lt q 0x8000) (λ m. inl (omega (arith, e, h))) (λ m. inr (omega (arith, e, h)))

alike_managed : (q : ℕ) → ((0x300 ≤ q) × (q < 0x310)) ⊎ ((0x8300 ≤ q) × (q < 0x8310)) → Managed alike q
alike_managed q (inl l) = record { range = _; listed = inl refl; has = omega (arith, l) }
alike_managed q (inr l) = record { range = _; listed = inr (inl refl); has = omega (arith, l) }

managed_alike : (q : ℕ) → Managed alike q → ((0x300 ≤ q) × (q < 0x310)) ⊎ ((0x8300 ≤ q) × (q < 0x8310))
managed_alike q m =
    ⊎_elim (λ e. inl (omega (arith, rw e at m.has))) (⊎_elim (λ e. inr (omega (arith, rw e at m.has))) absurd) m.listed

sixteen : SmallestPower 16 16
sixteen = record { power = 4; is = refl; not_below = omega arith; smallest = λ k l. l }

-- 8300 is a candidate, and every candidate is 300 or 8300
high_candidate : Candidate alike (io_asked (lines_packet 1 0x00 0x00 16 15)) 0x8300
high_candidate =
    record {
      step = 16;
      times = 0x830;
      align = sixteen;
      multiple = refl;
      positive = omega arith;
      managed = λ q w. alike_managed q (inr (w.from, w.below));
      answers = λ q a. alike_managed q (low_or_high q a.own a.below a.equal (omega (arith, a.own_in.from, a.own_in.below)));
      within = omega arith;
      meets_none = λ s g e. absurd (none-ne-some g e);
    }

candidates_are : (y : ℕ) → Candidate alike (io_asked (lines_packet 1 0x00 0x00 16 15)) y → (y ≡ 0x300) ⊎ (y ≡ 0x8300)
candidates_are y c =
    let is : y ≡ c.times * 16 = rw (smallest_power_unique 16 16 c.step sixteen c.align) c.multiple in
    ⊎_elim (λ l. inl (omega (arith, l, is))) (λ l. inr (omega (arith, l, is))) (managed_alike y (c.managed y (omega arith)))

-- of these, the ports at 8300 alone lie wholly in unreserved ranges
high_first : CandidateTaken alike (io_asked (lines_packet 1 0x00 0x00 16 15)) 0x8300
high_first =
    record { fits = high_candidate; first = λ y c. ⊎_elim (λ e. rw e (inl (unreserved, reserved))) (λ e. rw e (inr (iff_rfl, le_refl 0x8300))) (candidates_are y c) }
  where
    unreserved : WhollyUnreserved alike 0x8300 16
    unreserved q w = (record { range = _; listed = inr (inl refl); has = w }, refl)

    reserved : WhollyUnreserved alike 0x300 16 → ⊥
    reserved all =
        let u = all 0x300 (omega arith) in
        ⊎_elim (λ e. true≢false (sym (ap (λ (r : Range). r.reserved) e) ∙ u.1))
        (⊎_elim (λ e. omega (arith, (rw e at u.0.has).from)) absurd) u.0.listed

-- a card of fourteen lines has no candidate there: it would answer 4000 above its own ports, too, where nothing is managed
all_barred : NoCandidate alike (io_asked (lines_packet 1 0x00 0x00 16 14))
all_barred y c =
    ⊎_elim (λ l. ⊎_elim (λ m. omega (arith, l, m)) (λ m. omega (arith, l, m)) (image (omega (arith, l))))
    (λ l. ⊎_elim (λ m. omega (arith, l, m)) (λ m. omega (arith, l, m)) (image (omega (arith, l)))) (managed_alike y (c.managed y first_own))
  where
    first_own : Within y y 16
    first_own = omega arith

    image : y < 0xC000 → ((0x300 ≤ y + 0x4000) × (y + 0x4000 < 0x310)) ⊎ ((0x8300 ≤ y + 0x4000) × (y + 0x4000 < 0x8310))
    image l = managed_alike _ (c.answers (y + 0x4000) (record { below = omega arith; own = y; own_in = first_own; equal = omega arith }))

-- on `boards_ports` a card of four lines that is given 10 answers at managed ports alone: 2F8 to 2FF are others modulo 16
ten_managed : (q own : ℕ) → q < 0x10000 → q % 16 ≡ own % 16 → Within own 0x10 8 → Managed boards_ports q
ten_managed q own l e w =
    by_cases (dec_lt q 0x2F8) (λ m. record { range = range 0 0x2F8; listed = inl refl; has = omega arith })
    (λ m. upper_managed q (omega (arith, e, w.from, w.below)) l)

ten_candidate : Candidate boards_ports (io_asked (lines_packet 1 0x00 0x00 8 4)) 0x10
ten_candidate =
    record {
      step = 8;
      times = 2;
      align = eight 8 (omega arith);
      multiple = refl;
      positive = omega arith;
      managed = λ q w. ten_managed q q (omega (arith, w.below)) refl w;
      answers = λ q a. ten_managed q a.own a.below a.equal a.own_in;
      within = omega arith;
      meets_none = λ s g e. absurd (none-ne-some g e);
    }

-- 8 is no candidate, and no range is reserved: so 10 comes first
ten_first : CandidateTaken boards_ports (io_asked (lines_packet 1 0x00 0x00 8 4)) 0x10
ten_first =
    record {
      fits = ten_candidate;
      first = λ y c. inr ((λ u. unreserved y c, λ u. unreserved 0x10 ten_candidate), omega (arith, is y c, c.positive, not_eight y c));
    }
  where
    is : (y : ℕ) (c : Candidate boards_ports (io_asked (lines_packet 1 0x00 0x00 8 4)) y) → y ≡ c.times * 8
    is y c = rw (smallest_power_unique 8 8 c.step (eight 8 (omega arith)) c.align) c.multiple

    not_eight : (y : ℕ) → Candidate boards_ports (io_asked (lines_packet 1 0x00 0x00 8 4)) y → y ≢ 8
    not_eight y c e =
        board_unmanaged boards_ports refl
        (c.answers 0x2F8 (record { below = omega arith; own = 8; own_in = omega (arith, e); equal = refl }))

    unreserved : (y : ℕ) → Candidate boards_ports (io_asked (lines_packet 1 0x00 0x00 8 4)) y → WhollyUnreserved boards_ports y 8
    unreserved y c q w =
        let m = c.managed q w in
        (m, ⊎_elim (ap (λ (r : Range). r.reserved)) (⊎_elim (ap (λ (r : Range). r.reserved)) absurd) m.listed)

-- the table with all ports added is well formed, and a grant of 6F8 fits it
ready_formed : WellFormed ready
ready_formed =
    let one = card_formed _ (fresh_formed 3 (omega arith) (omega arith)) 0 true (omega arith) in
    let three = card_formed _ (card_formed _ one 1 true (omega arith)) 2 true (omega arith) in
    register_stays _ 0 client_packet (done 1 client_packet ready) three (registers _ (omega arith)).permitted

all_added_formed : WellFormed all_added
all_added_formed =
    ranges_formed ready ready_formed all_added.ranges (omega arith) (omega arith) below_end (λ s g e. absurd (none-ne-some g e))
  where
    below_end : (r : Range) → r ∈ all_added.ranges → r.base + r.count ≤ 0x10000
    below_end r = ⊎_elim (λ e. rw e (omega arith)) (⊎_elim (λ e. rw e (omega arith)) (⊎_elim (λ e. rw e (omega arith)) absurd))

six_fits : (g : IoGrant) → (granting_io 1 (ports 0x6F8 8 10) all_added).io 1 ≡ some g → IoFits all_added 1 g
six_fits g e =
    subst (IoFits all_added 1) (some-injective _ g e)
    (record {
      client = record { client = _; listed = inl refl; handle = refl };
      socket = omega arith;
      base = omega arith;
      line = omega arith;
      lines = omega arith;
      port = omega arith;
      asked = omega arith;
      decoded = omega arith;
      managed = λ q w. all_managed q (omega (arith, w.below));
      answers = λ q a. all_managed q a.below;
    })

pub answering_cases : AnsweringCases
answering_cases =
    record {
      unmanaged_refused =
          named_refused ready.io refl boards_ports.ranges 0xF8 0x06 8 10 (omega arith) (omega arith) (omega arith)
          (inr (inr (λ all. board_unmanaged boards_ports refl (all 0x2F8 six_answers))));
      managed_granted =
          named_granted ready.io refl all_added.ranges 0xF8 0x06 8 10 (omega arith) (omega arith) (omega arith)
          ((λ l. omega arith) nor (λ n. n (λ q w. all_managed q (omega (arith, w.below)))) nor (λ n. n (λ q a. all_managed q a.below)))
          (λ e. none-ne-some _ e.held);
      all_lines_granted =
          named_granted ready.io refl boards_ports.ranges 0xF8 0x06 8 16 (omega arith) (omega arith) (omega arith)
          ((λ l. omega arith) nor (λ n. n (λ q w. upper_managed q (omega (arith, w.from)) (omega (arith, w.below))))
          nor (λ n. n (λ q a. let same = at_home (omega arith) a in upper_managed q (omega (arith, same, a.own_in.from)) a.below)))
          (λ e. none-ne-some _ e.held);
      multiple_passed = first_given ready.io refl boards_ports.ranges 0x00 0x00 8 4 (omega arith) (omega arith) refl 0x10 ten_first;
      none_left = none_refused ready.io refl alike.ranges 0x00 0x00 16 14 (omega arith) (omega arith) refl all_barred;
      repeated_kept =
          adjusts (granting_io 1 (ports 0x6F8 8 10) all_added) (omega arith) 0x00 0xF8 0x02 8 0x00 16 (omega arith)
          (inr (inl (
            refl,
            inl (
              (omega arith nor omega arith)
                  past (omega arith nor omega arith)
                  past (omega arith)
                  past (λ none. none (range 0x2F8 8) (inr (inl refl), refl, refl))
                  past inl ((range 0x2F8 8, (inr (inl refl), refl, refl), repeated), refl),
              as_kept InUse remove_packet (granting_io 1 (ports 0x6F8 8 10) all_added),
            ),
          )));
      own_ports_ordered = first_given ready.io refl alike.ranges 0x00 0x00 16 15 (omega arith) (omega arith) refl 0x8300 high_first;
      unmanaged_unformed = λ w. board_unmanaged (granting_io 1 (ports 0x6F8 8 10) boards_ports) refl ((w.ios 1 _ refl).answers 0x2F8 six_answers);
      managed_formed = io_formed all_added all_added_formed 1 _ six_fits (λ t g g' d e live. absurd (none-ne-some g' live));
    }
  where
    -- the card that is given 6F8 answers in the range that is asked for
    repeated : RangeAnswered (granting_io 1 (ports 0x6F8 8 10) all_added) (range 0x2F8 8)
    repeated = record { seat = 1; range = _; held = refl; port = 0x2F8; has = omega arith; answers = six_answers }
