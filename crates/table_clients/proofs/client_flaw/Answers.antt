-- `table_clients::client_flaw` meets its contract: what is wrong is 0 exactly if each of three numbers is.
-- Assumes nothing.
use Rattle.facts.proofs.Words.{inl, inr, ⊎_elim, ◌/◌, bit_or, arith}
use Rattle.facts.proofs.{says_as, says_eq}
use Rattle.table_read.proofs.{or_says}
use Rattle.table_clients.proofs.client_flaw.Goals as goal

pub returns-then-h-eq0 : goal.returns-then-h-eq0
returns-then-h-eq0 c =
    let a = c.args in
    says_as
    (or_says (bit_or a.next a.events) a.attributes (or_says a.next a.events (says_eq a.next 0) (says_eq a.events 0))
    (says_eq a.attributes 0)) (λ p. inl (omega arith, record { last = p.0.0; no_events = p.0.1; no_attributes = p.1 }))
    (⊎_elim (λ p. ((p.1.last, p.1.no_events), p.1.no_attributes)) (λ p. absurd (p.used (omega arith))))

pub returns : goal.returns
returns c =
    let a = c.args in
    says_as
    (or_says (bit_or c.rise_flaw.result (a.events / 4096)) c.attributes_flaw.result
    (or_says c.rise_flaw.result (a.events / 4096) c.rise_flaw.ensures (says_eq (a.events / 4096) 0)) c.attributes_flaw.ensures)
    (λ p. inr
    (record { used = λ e. omega (arith, e); rises = p.0.0; events_allowed = omega (arith, p.0.1); attributes_allowed = p.1 }))
    (⊎_elim (λ p. absurd (omega (arith, p.0))) (λ p. ((p.rises, omega (arith, p.events_allowed)), p.attributes_allowed)))
