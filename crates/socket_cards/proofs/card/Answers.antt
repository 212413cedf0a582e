-- `socket_cards::card` meets its contract: the socket is below the count, or not.
-- Assumes nothing.
use Rattle.facts.proofs.Words.{arith}
use Rattle.facts.proofs.{handed}
use Rattle.facts.specs.{Facts, CardTo, code_in}
use Rattle.layout.specs.Served.{Served}
use Rattle.layout.proofs.{size_in}
use Rattle.socket_cards.proofs.{in_table, card_past, card_done}
use Rattle.socket_cards.proofs.card.Goals as goal

pub below_count-requires : goal.below_count-requires
below_count-requires c = size_in _ c.requires

pub returns-in_err-s : goal.returns-in_err-s
returns-in_err-s c =
    let a = c.args in
    handed (λ r. Served (λ (F G : Facts). CardTo a.present F a.socket.0 (record { code = code_in r; facts = G })) a.t.now a.t.now) _ c.from_residual.ensures
    c.in_err-s.ensures.0
    (card_past c.requires a.present c.in_err-s.ensures.1)

pub bounds-t-s : goal.bounds-t-s
bounds-t-s c =
    omega (arith, c.in_ok-s.ensures.0, in_table c.requires c.in_ok-s.ensures.1, size_in _ c.requires)

pub returns : goal.returns
returns c =
    rw (c.in_ok-s.ensures.0, c.from.ensures) (card_done c.requires c.args.present c.in_ok-s.ensures.1)
