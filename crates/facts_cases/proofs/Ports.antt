-- Ports that meet or don't, and the base that RequestIO gives where one range is managed: for N1 to N4, N8 and N9. Assumes nothing.
use Rattle.facts.proofs.Words.{◌≡◌, refl, by_cases, sym, ◌∙◌, ◌≢◌, inl, inr, ⊎_elim, List, [], ◌∷◌, true≢false, Option, none, some}
use Rattle.facts.specs.declared.Ports.{Ports}
use Rattle.facts.proofs.Words.{none-ne-some, some-injective, ℕ, ◌+◌, ◌-◌, ◌*◌, ◌^◌, ◌≤◌, ◌<◌, min, mod-eq_of_lt, dec_le, arith, pow_mono}
use Rattle.facts.specs.{Code, BadBase, InUse, Passed, FirstGiven, with_word, BaseTaken, CandidateTaken, NoCandidate, NotAllManaged, InTheWay}
use Rattle.facts.specs.{base_asked_lem, io_ahead_checks, base_checks, Facts, Range, IoGrant, Meet, Has, Managed, Answers, Candidate, SmallestPower, RequestIo}
use Rattle.facts.specs.{io_asked}
use Rattle.facts_cases.specs.{Exactly, done, refused, lines_packet, ports, ready, granting_io, half_held, io_packet}
use Rattle.facts.proofs.{put_is, smallest_power_unique, request_io_unique}
use Rattle.facts_cases.proofs.Permitted.{exactly, as_left, as_kept, ◌then◌, ◌nor◌, ◌past◌, passed-after, given-after, listed_alone}
use Rattle.facts_cases.proofs.Permitted.{alone_chosen}

-- ranges that lie below two to the smaller count of lines meet only in an equal port
pub meet_equal : {a b : Ports} → a.base + a.count ≤ 2 ^ min a.lines b.lines → b.base + b.count ≤ 2 ^ min a.lines b.lines
    → (m : Meet a b) → m.one ≡ m.other
meet_equal l l' m = sym (mod-eq_of_lt (omega (arith, m.one_in))) ∙ m.equal ∙ mod-eq_of_lt (omega (arith, m.other_in))

-- the smallest power of two not below 5, 6, 7 or 8 is 8, and no other
pub eight : (n : ℕ) → (4 < n) × (n ≤ 8) → SmallestPower n 8
eight n sized =
    record {
      power = 3;
      is = refl;
      not_below = sized.1;
      smallest = λ k l. by_cases (dec_le 3 k) pow_mono (λ h. absurd (omega (arith, pow_mono {i = k} {j = 2} (omega arith))));
    }

-- at sixteen lines a card answers at its own ports alone
pub at_home : {b n x : ℕ} → b + n ≤ 0x10000 → (a : Answers (ports b n 16) x) → x ≡ a.own
at_home l a = sym (mod-eq_of_lt a.below) ∙ a.equal ∙ mod-eq_of_lt (omega (arith, a.own_in.below))

-- a table with N8's client and cards, the I/O grants io and the managed ranges rs
abbrev pub io_table : (ℕ → Option IoGrant) → List Range → Facts
io_table io rs =
    record {
      sockets = ready.sockets;
      card = ready.card;
      issued = ready.issued;
      clients = ready.clients;
      level = ready.level;
      ranges = rs;
      io = io;
      irq = ready.irq;
    }

-- RequestIO there, of the socket 1, which has no grant
module _ (io : ℕ → Option IoGrant) (free : io 1 ≡ none) (rs : List Range) (low high count lines : ℕ) (lined : (1 ≤ lines) × (lines ≤ 16))
    (counted : (1 ≤ count) × (count ≤ 2 ^ lines)) where
  abbrev table : Facts
  table = io_table io rs

  abbrev packet : List ℕ
  packet = lines_packet 1 low high count lines

  -- the checks ahead of the base pass
  ahead : Passed (io_ahead_checks table 1 packet [])
  ahead =
      (omega arith)
      then (λ e. e (record { client = _; listed = inl refl; handle = refl }))
      then (omega arith nor omega arith)
      then true≢false
      then ((λ e. omega arith) nor (λ e. omega arith) nor (λ e. omega (arith, lined)) nor (λ e. omega (arith, lined)))
      then ((λ e. omega (arith, counted)) nor (λ e. omega (arith, counted)) nor (λ e. e refl))
      then (λ e. e free)
      then tt

  -- so it is refused as the base's checks say, and granted where they pass
  base_refused : (k : Code) → FirstGiven (base_checks table (io_asked packet)) k → Exactly (RequestIo table 1 packet) (refused k packet table)
  base_refused k g =
      exactly (request_io_unique table 1 packet)
      (inl (given-after (io_ahead_checks table 1 packet []) (base_checks table (io_asked packet)) k ahead g, as_kept k packet table))

  base_granted : (b : ℕ) → Passed (base_checks table (io_asked packet)) → BaseTaken table (io_asked packet) b
      → Exactly (RequestIo table 1 packet) (done 1 (with_word packet 2 b) (granting_io 1 (ports b count lines) table))
  base_granted b passed taken =
      exactly (request_io_unique table 1 packet)
      (inr (
        passed-after (io_ahead_checks table 1 packet []) (base_checks table (io_asked packet)) ahead passed,
        (refl, record { base = b; taken = taken; leaves = as_left _ }),
      ))

  -- a base that is named and isn't all managed is refused; one that is, and in nobody's way, is granted
  pub named_refused : base_asked_lem packet ≢ 0 → NotAllManaged table (io_asked packet) → Exactly (RequestIo table 1 packet) (refused BadBase packet table)
  named_refused named bad = base_refused BadBase (inl ((named, bad), refl))

  pub named_granted : base_asked_lem packet ≢ 0 → (NotAllManaged table (io_asked packet) → ⊥) → (InTheWay table (io_asked packet) → ⊥)
      → Exactly (RequestIo table 1 packet)
      (done 1 (with_word packet 2 (base_asked_lem packet)) (granting_io 1 (ports (base_asked_lem packet) count lines) table))
  named_granted named good clear =
      base_granted (base_asked_lem packet) ((λ e. good e.1) then (λ e. clear e.1) then (λ e. named e.0) then tt) (inl (named, refl))

  -- base 0 is given the first candidate; without one it is refused
  pub first_given : base_asked_lem packet ≡ 0 → (b : ℕ) → CandidateTaken table (io_asked packet) b
      → Exactly (RequestIo table 1 packet) (done 1 (with_word packet 2 b) (granting_io 1 (ports b count lines) table))
  first_given asked b taken =
      base_granted b ((λ e. e.0 asked) then (λ e. e.0 asked) then (λ e. e.1 b taken.fits) then tt) (inr (asked, taken))

  pub none_refused : base_asked_lem packet ≡ 0 → NoCandidate table (io_asked packet) → Exactly (RequestIo table 1 packet) (refused InUse packet table)
  none_refused asked barred = base_refused InUse ((λ e. e.0 asked) past (λ e. e.0 asked) past inl ((asked, barred), refl))

-- the packet of N8 and N9
abbrev asking : ℕ → List ℕ
asking n = io_packet 1 0x00 0x00 n

-- "meeting no live grant"
abbrev pub MeetsNone : (ℕ → Option IoGrant) → Ports → Type 0
MeetsNone io a = (s : ℕ) (g : IoGrant) → io s ≡ some g → Meet a g.ports → ⊥

module _ (io : ℕ → Option IoGrant) (r : Range) (n : ℕ) (sized : (4 < n) × (n ≤ 8)) where
  managed_in_lem : (x : ℕ) → Managed (io_table io (r ∷ [])) x → Has r x
  managed_in_lem x m = rw (listed_alone m.listed) at m.has

  -- a candidate is a multiple of 8 in the range
  candidate_multiple : (b : ℕ) (c : Candidate (io_table io (r ∷ [])) (io_asked (asking n)) b) → b ≡ c.times * 8
  candidate_multiple b c = rw (smallest_power_unique n 8 c.step (eight n sized) c.align) c.multiple

  candidate_in : (b : ℕ) → Candidate (io_table io (r ∷ [])) (io_asked (asking n)) b → (r.base ≤ b) × (b + n ≤ r.base + r.count)
  candidate_in b c =
      let low = managed_in_lem b (c.managed b (omega arith)) in
      let high = managed_in_lem (b + n - 1) (c.managed (b + n - 1) (omega arith)) in
      omega arith

  -- where 308 is the one such multiple that meets no live grant, it is given
  pub gives_308 : io 1 ≡ none → (r.base ≤ 0x308) × (0x308 + n ≤ r.base + r.count) → MeetsNone io (ports 0x308 n 16)
      → ((b t : ℕ) → b ≡ t * 8 → (r.base ≤ b) × (b + n ≤ r.base + r.count) → MeetsNone io (ports b n 16) → b ≡ 0x308)
      → Exactly (RequestIo (io_table io (r ∷ [])) 1 (asking n))
      (done 1 (io_packet 1 0x08 0x03 n) (granting_io 1 (ports 0x308 n 16) (io_table io (r ∷ []))))
  gives_308 free inside meets_none only =
      let c : Candidate (io_table io (r ∷ [])) (io_asked (asking n)) 0x308 =
      record {
        step = 8;
        times = 97;
        align = eight n sized;
        multiple = refl;
        positive = omega arith;
        managed = λ x w. record { range = r; listed = inl refl; has = omega arith };
        answers = λ x a. let same = at_home (omega arith) a in record { range = r; listed = inl refl; has = omega (arith, same, a.own_in) };
        within = omega arith;
        meets_none = meets_none;
      } in
      first_given io free (r ∷ []) 0x00 0x00 n 16 (omega arith) (omega arith) refl 0x308
      (alone_chosen c (λ b c'. only b c'.times (candidate_multiple b c') (candidate_in b c') c'.meets_none))

-- N8's held half: 308 meets it not, and 300 does
pub half_meets_none : MeetsNone half_held.io (ports 0x308 8 16)
half_meets_none s g live m =
    ⊎_elim
    (λ e. let m' = rw (← (some-injective _ g (sym e.1 ∙ live))) at m in omega (arith, meet_equal (omega arith) (omega arith) m'))
    (λ e. none-ne-some g (sym e.1 ∙ live)) (put_is ready.io 0 (half_held.io 0) s)

pub half_leaves_308 : (b t : ℕ) → b ≡ t * 8 → (0x300 ≤ b) × (b + 8 ≤ 0x310) → MeetsNone half_held.io (ports b 8 16) → b ≡ 0x308
half_leaves_308 b t e inside meets_none = omega (arith, not_300)
  where
    not_300 : b ≢ 0x300
    not_300 e = meets_none 0 _ refl (record { one = 0x300; other = 0x300; one_in = omega arith; other_in = omega arith; equal = refl })
