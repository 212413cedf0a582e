-- `table_ios::ios_sound` meets its contract. The loop's invariant: the records of the seats passed are sound, the set has
-- each block in which their grants answer, and where no block was in common they keep company.
-- Assumes nothing.
use Rattle.facts.proofs.Words.{by_cases, dec_lt, List, ℕ, ◌-◌, ◌/◌, ◌≤◌, ◌<◌, arith}
use Rattle.facts.specs.{most_seats}
use Rattle.facts.proofs.{says_true, says_as, says_yes, says_false_by}
use Rattle.layout.specs.{Zero, ios_at, io_size, io_place_lem, IoPlaceSound, IoPairSound}
use Rattle.table_read.proofs.{SoFar, so_far_more}
use Rattle.seats.specs.{SeatSound, IosSound}
use Rattle.table_company.specs.{CompaniesSound, BlocksOf}
use Rattle.table_company.proofs.{blocks_more, companies_more}
use Rattle.seats.proofs.{zero_sound, sound_zero}
use Rattle.table_ios.proofs.ios_sound.Goals as goal

module _ (b : List ℕ) where
  -- records from a seat on that are all zero are sound
  zeros : (n : ℕ) → Zero b (io_place_lem n) (io_place_lem most_seats) → (s : ℕ) → n ≤ s → s < most_seats
      → SeatSound (IoPlaceSound b) (IoPairSound b) s
  zeros n z = zero_sound b n (io_place_lem most_seats) io_size io_place_lem (omega arith) (λ s f. omega arith) (λ s l. omega arith) z

  -- the records of all seats are sound, where those of sockets keep company
  all_sound : (sockets n : ℕ) → SoFar sockets (IoPlaceSound b) n → sockets ≤ n → Zero b (io_place_lem sockets) (io_place_lem most_seats)
      → CompaniesSound b sockets
      → IosSound b
  all_sound sockets n passed end z kept s l =
      by_cases (dec_lt s sockets) (λ m. record { place = passed.each s (omega (arith, m, end)); company = kept s m })
      (λ m. zeros _ z s (omega (arith, m)) l)

pub returns-then-not-zero : goal.returns-then-not-zero
returns-then-not-zero c =
    says_false_by c.zero-2.ensures c.if-not-zero.true
    (sound_zero c.args.t.now _ _ io_size io_place_lem (λ i. (i - ios_at) / io_size)
    (λ i f l. (omega arith, omega arith, record { from = omega arith; below = omega arith })) (λ s g. omega (arith, g.socket, c.byte-sockets.ensures.0)))

pub io_place_sound-requires-clause-gaps_serve : goal.io_place_sound-requires-clause-gaps_serve
io_place_sound-requires-clause-gaps_serve c =
    (λ s l u m. let fewer = c.fewest_lines.ensures s l u in c.fill.ensures (omega arith), c.range_near-near.ensures.1)

pub loop-s-preserved : goal.loop-s-preserved
loop-s-preserved c =
    let inv = c.loop-s.invariant in
    let own : BlocksOf c.args.t.now c.loop-s.s c.io_blocks-own.result = rw c.new-seat.ensures at c.io_blocks-own.ensures in
    record {
      sound = so_far_more inv.sound c.loop-s-test.true (rw c.new-seat.ensures at (says_yes c.io_place_sound.ensures c.if-not-io_place_sound.false));
      blocks = blocks_more _ _ _ _ inv.blocks own;
      kept = companies_more _ _ _ _ _ inv.blocks own inv.kept;
      near_most = c.range_near-near.ensures.0;
    }

pub returns-then-common-eq0 : goal.returns-then-common-eq0
returns-then-common-eq0 c =
    let inv = c.loop-s.invariant in
    says_true
    (all_sound _ _ _ inv.sound c.loop-s-test.false (says_yes c.zero-2.ensures c.if-not-zero.false)
    (λ s l. inv.kept c.if-common-eq0.true s (omega (arith, l))))

pub returns : goal.returns
returns c =
    says_as c.companies_kept.ensures
    (all_sound _ _ _ c.loop-s.invariant.sound c.loop-s-test.false (says_yes c.zero-2.ensures c.if-not-zero.false))
    (λ all s l. (all s (omega (arith, l, c.byte-sockets.ensures.0, c.requires.1.sockets_most))).company)
