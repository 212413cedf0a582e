-- `irq_services::request` meets its contract: each check's answer says which end of the rule it is.
-- Assumes nothing.
use Rattle.std.specs.Prelude.{Option, Result, Ok}
use Rattle.std.specs.Option.{ok_or}
use Rattle.facts.proofs.Words.{◌≡◌, refl, ap, sym, ◌∙◌, List, ◌<◌, arith, ℕ}
use Rattle.facts.proofs.{handed, given, missing, taken_fits}
use Rattle.facts.specs.{Code, BadIrq, LevelTaken, all_levels, IrqAsked, irq_asked}
use Rattle.layout.specs.{Accepted}
use Rattle.layout.proofs.{size_in, manner_most}
use Rattle.service_checks.proofs.{refused_ahead}
use Rattle.irq_fitting.specs.{TakenIs}
use Rattle.irq_services.specs.Granting.{RequestServed}
use Rattle.irq_services.proofs.{requesting, request_attributes, request_info, request_held, request_none, request_done}
use Rattle.irq_services.proofs.request.Goals as goal

-- the level that was chosen is the one that a grant takes, and one of a table's
chosen : {b : List ℕ} (p : List ℕ) (a : Accepted b) {q : IrqAsked} (o : Option ℕ) {r : Result ℕ Code} {l : ℕ} → q ≡ irq_asked p → TakenIs b q o → r ≡ ok_or o BadIrq → r ≡ Ok l
    → LevelTaken a.facts (irq_asked p) l × (l < all_levels)
chosen {b} p a {q} o {r} {l} e is v w =
    let taken : LevelTaken a.facts (irq_asked p) l = (rw e at (given (TakenIs b q) BadIrq o v w is)) a in
    (taken, a.formed.levels l (taken_fits a.facts a.formed (irq_asked p) l taken).managed)

pub returns-in_err-seat : goal.returns-in_err-seat
returns-in_err-seat c =
    handed (RequestServed _ _ _ _ _) _ c.from_residual.ensures refl
    (refused_ahead requesting c.requires c.args.h.0 c.args.p.now _ (c.in_err-seat.ensures c.requires))

pub returns-in_err-attributes_asked : goal.returns-in_err-attributes_asked
returns-in_err-attributes_asked c =
    handed (RequestServed _ _ _ _ _) _ c.from_residual-in_err-attributes_asked.ensures c.in_err-attributes_asked.ensures.0
    (request_attributes c.requires c.in_ok-seat.ensures c.in_err-attributes_asked.ensures.1)

pub returns-in_err-info_asked : goal.returns-in_err-info_asked
returns-in_err-info_asked c =
    handed (RequestServed _ _ _ _ _) _ c.from_residual-in_err-info_asked.ensures c.in_err-info_asked.ensures.0
    (request_info c.requires c.in_ok-seat.ensures c.in_ok-attributes_asked.ensures c.in_err-info_asked.ensures.1)

pub level_held-requires : goal.level_held-requires
level_held-requires c = size_in _ c.requires

pub returns-then-held : goal.returns-then-held
returns-then-held c =
    request_held c.requires c.in_ok-seat.ensures c.in_ok-attributes_asked.ensures c.in_ok-info_asked.ensures _ c.level_held.ensures
    (sym c.is_some-held.ensures ∙ c.if-held.true)

pub returns-in_err-level : goal.returns-in_err-level
returns-in_err-level c =
    let none = missing (TakenIs c.args.t.now c.asked-asked.result) _ _ c.ok_or.ensures.value c.in_err-level.was c.choose.ensures in
    handed (RequestServed _ _ _ _ _) _ c.from_residual-in_err-level.ensures none.0
    (request_none c.requires c.in_ok-seat.ensures c.in_ok-attributes_asked.ensures c.in_ok-info_asked.ensures _ c.level_held.ensures
    (sym c.is_some-held.ensures ∙ c.if-held.false)
    ((rw c.asked-asked.ensures at none.1) c.requires))

pub enter_level-requires : goal.enter_level-requires
enter_level-requires c =
    let level = chosen c.args.p.now c.requires _ c.asked-asked.ensures c.choose.ensures c.ok_or.ensures.value c.in_ok-level.was in
    (size_in _ c.requires, level.1, omega (arith, c.manner_byte.ensures, manner_most c.asked-asked.result.manner))

pub assign-requires : goal.assign-requires
assign-requires c =
    let level = chosen c.args.p.now c.requires _ c.asked-asked.ensures c.choose.ensures c.ok_or.ensures.value c.in_ok-level.was in
    (c.in_ok-seat.ensures.size, level.1, ap (λ (q : IrqAsked). q.manner) c.asked-asked.ensures)

pub returns : goal.returns
returns c =
    let level = chosen c.args.p.now c.requires _ c.asked-asked.ensures c.choose.ensures c.ok_or.ensures.value c.in_ok-level.was in
    rw (c.enter_level.ensures, c.manner_byte.ensures, c.asked-asked.ensures, c.assign.ensures)
    (request_done c.requires c.in_ok-seat.ensures c.in_ok-attributes_asked.ensures c.in_ok-info_asked.ensures _ c.level_held.ensures
    (sym c.is_some-held.ensures ∙ c.if-held.false)
    c.in_ok-level.level level.0 (omega arith))
