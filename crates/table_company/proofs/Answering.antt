-- The blocks of ports: where the ports of a grant stand, and that grants which meet answer in a block in common. Assumes nothing.
use Rattle.facts.proofs.Words.{◌≡◌, refl, sym, ap, ◌∙◌, subst, List, ℕ, ◌+◌, ◌-◌, ◌*◌, ◌/◌, ◌%◌, ◌^◌, ◌≤◌, ◌<◌, min-eq_left}
use Rattle.facts.proofs.Words.{min-eq_right, dec_lt, arith, bit_and, bit_or, field, eq-eqb}
use Rattle.facts.specs.declared.Ports.{Ports}
use Rattle.facts.specs.{bit, Within, Meet}
use Rattle.layout.specs.{IoPairSound}
use Rattle.io_ranges.proofs.{mod_fewer}
use Rattle.table_read.specs.{Covers}
use Rattle.facts.proofs.{shifted_bit, says_eq}
use Rattle.table_read.proofs.{All, all_more, or_says, or_left, or_right, all_bits, none_common}
use Rattle.seats.specs.{CompanySound}
use Rattle.table_company.specs.{block_of, BlocksWithin, AnswersInBlock, BlocksOf, CompaniesSound, AllShared}

-- the blocks of so many ports are the first of so many, moved up by the block of the first port
pub blocks_within_lem : (base count set : ℕ) → let first = base / 8 % 64 in
    let blocks = (base % 8 + count - 1) / 8 + 1 in
    set ≡ (2 ^ blocks - 1) * 2 ^ first → first + blocks ≤ 64 → BlocksWithin set base count
blocks_within_lem base count set e fits p w =
    let first = base / 8 % 64 in
    let blocks = (base % 8 + count - 1) / 8 + 1 in
    let past = p / 8 - base / 8 in
    let block : block_of p ≡ first + past = omega (arith, w.from, w.below, fits) in
    rw (e, block) (shifted_bit (2 ^ blocks - 1) first past ∙ all_bits blocks past (omega (arith, w.from, w.below)))

-- ports that are equal modulo two to so many lines are in one block
same_block : (p q lines : ℕ) → 9 ≤ lines → p % 2 ^ lines ≡ q % 2 ^ lines → block_of p ≡ block_of q
same_block p q lines l e = sym (field p 6 3) ∙ ap (λ (n : ℕ). n / 8) (mod_fewer p q 9 lines l e) ∙ field q 6 3

-- the blocks of its own ports are those in which a card answers that decodes so many lines
pub own_blocks : (a : Ports) (set : ℕ) → 9 ≤ a.lines → BlocksWithin set a.base a.count → Covers set (AnswersInBlock a)
own_blocks a set l w k x =
    subst (λ (j : ℕ). bit set j ≡ 1) (sym (same_block x.port x.own a.lines l x.equal) ∙ x.block) (w x.own x.own_in)

-- a card answers in the block of a port that equals one of its own
answers : {a : Ports} {own : ℕ} (port : ℕ) → Within own a.base a.count → port % 2 ^ a.lines ≡ own % 2 ^ a.lines → AnswersInBlock a (block_of port)
answers port w e = record { port = port; own = _; own_in = w; equal = e; block = refl }

-- ports of cards that answer in no block in common do not meet
blocks_apart : (a c : Ports) (x y : ℕ) → bit_and x y ≡ 0 → Covers x (AnswersInBlock c) → Covers y (AnswersInBlock a) → Meet a c → ⊥
blocks_apart a c x y e other own m = below_or_not (dec_lt c.lines a.lines)
  where
    below_or_not : Dec (c.lines < a.lines) → ⊥
    below_or_not (yes l) =
        let fewer : c.lines ≤ a.lines = omega arith in
        none_common x y e other own (block_of m.one) (answers m.one m.other_in (rw (min-eq_right fewer) at m.equal))
        (answers m.one m.one_in refl)
    below_or_not (no l) =
        let fewer : a.lines ≤ c.lines = omega arith in
        none_common x y e other own (block_of m.other) (answers m.other m.other_in refl)
        (answers m.other m.one_in (sym (rw (min-eq_left fewer) at m.equal)))

-- the set of the seats passed, and of one more
pub blocks_more : (b : List ℕ) (s passed own : ℕ) → All s (λ u. BlocksOf b u passed) → BlocksOf b s own
    → All (s + 1) (λ u. BlocksOf b u (bit_or passed own))
blocks_more b s passed own below here =
    all_more {P = λ u. BlocksOf b u (bit_or passed own)} (λ u l used k a. or_left passed own k (below u l used k a))
    (λ used k a. or_right passed own k (here used k a))

-- that one keeps company, where it has no block in common with those below it
pub companies_more : (b : List ℕ) (s passed own common : ℕ) → All s (λ u. BlocksOf b u passed) → BlocksOf b s own
    → (common ≡ 0 → CompaniesSound b s)
    → bit_or common (bit_and passed own) ≡ 0
    → CompaniesSound b (s + 1)
companies_more b s passed own common below here kept e =
    let none = (or_says common (bit_and passed own) (says_eq common 0) (says_eq (bit_and passed own) 0)).holds (eq-eqb _ 0 e) in
    all_more {P = CompanySound (IoPairSound b)} (kept none.0)
    (λ u l used used' m. absurd (blocks_apart _ _ passed own none.1 (below u l used') (here used) m))

-- shared grants keep company, wherever they answer
pub shared_company : (b : List ℕ) (n : ℕ) → AllShared b n → CompaniesSound b n
shared_company b n all s l u m used used' met = (all s l used, all u (omega arith) used')
