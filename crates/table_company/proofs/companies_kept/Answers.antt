-- `table_company::companies_kept` meets its contract. All grants are shared, or the loop's invariant: the grants passed keep company, and stand in
-- the rows.
-- Assumes nothing.
use Rattle.facts.proofs.Words.{◌≡◌, ◌≢◌, List, ℕ, ◌+◌, subst⁻¹, arith, Says}
use Rattle.facts.proofs.{says_true, says_yes, says_false_by}
use Rattle.layout.specs.{IoPairSound}
use Rattle.table_read.proofs.{all_more, so_far_more}
use Rattle.seats.specs.{CompanySound}
use Rattle.table_company.specs.declared.Numbers.{Numbers}
use Rattle.table_company.specs.declared.Rows.{Rows}
use Rattle.table_company.specs.{NumbersAre, RowsAre, numbers_at}
use Rattle.table_company.proofs.{apart_says}
use Rattle.table_company.proofs.companies_kept.Goals as goal

-- the numbers of a seat are entered in rows that have those of the seats below it
entered : {b : List ℕ} (rows rows' : Rows) {s : ℕ} {new : Numbers} → RowsAre b rows s → NumbersAre b s new → numbers_at rows' s ≡ new
    → ((j : ℕ) → j ≢ s → numbers_at rows' j ≡ numbers_at rows j)
    → RowsAre b rows' (s + 1)
entered {b} rows rows' are new here others =
    all_more {P = λ u. NumbersAre b u (numbers_at rows' u)} (λ u l. subst⁻¹ (NumbersAre b u) (others u (λ e. omega (arith, e))) (are u l))
    (subst⁻¹ (NumbersAre b _) here new)

pub returns-then-not-apart : goal.returns-then-not-apart
returns-then-not-apart c =
    let seat = c.new-seat.ensures in
    let are : RowsAre c.args.t.now c.enter.new.self (c.loop-s.s + 1) =
    entered _ c.enter.new.self c.loop-s.invariant.1 (rw seat at c.numbers_of.ensures) (rw seat at c.enter.ensures.here) (rw seat at c.enter.ensures.others) in
    let company : Says c.apart.result (CompanySound (IoPairSound c.args.t.now) c.loop-s.s) =
    apart_says _ c.enter.new.self _ are (λ u l. c.requires.2 u (omega (arith, c.loop-s-test.true))) (rw seat at c.apart.ensures) in
    says_false_by company c.if-not-apart.true (λ all. all _ c.loop-s-test.true)

pub loop-s-preserved : goal.loop-s-preserved
loop-s-preserved c =
    let seat = c.new-seat.ensures in
    let are : RowsAre c.args.t.now c.enter.new.self (c.loop-s.s + 1) =
    entered _ c.enter.new.self c.loop-s.invariant.1 (rw seat at c.numbers_of.ensures) (rw seat at c.enter.ensures.here) (rw seat at c.enter.ensures.others) in
    let company : Says c.apart.result (CompanySound (IoPairSound c.args.t.now) c.loop-s.s) =
    apart_says _ c.enter.new.self _ are (λ u l. c.requires.2 u (omega (arith, c.loop-s-test.true))) (rw seat at c.apart.ensures) in
    (so_far_more c.loop-s.invariant.0 c.loop-s-test.true (says_yes company c.if-not-apart.false), are)

pub returns : goal.returns
returns c = says_true (λ s l. c.loop-s.invariant.0.each s (omega (arith, l, c.loop-s-test.false)))
