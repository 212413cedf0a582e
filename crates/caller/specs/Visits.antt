-- A visit: a table is made, and each of the other entries is called once. What comes about is a run. Assumes nothing.
use Rattle.std.specs.Prelude.{◌≡◌, ◌≢◌, List, [], ◌∷◌, map, ℕ, Result, Ok, Err}
use Rattle.facts.specs.declared.Code.{Code}
use Rattle.facts.specs.declared.Code.TheVariants.{Success}
use Rattle.history.specs.Events.{Event, number_in, make_fresh, call, card_in, card_out, boot, sharers, Ours, FromFresh}
use Rattle.caller.specs.Relied.{AfterRun}
use Rattle.caller.specs.declared.VisitAnswers.{VisitAnswers}

-- what a caller gives
pub record Plan : Type 0 where
  pub sockets : ℕ
  pub records : List ℕ
  pub socket : ℕ
  pub service : ℕ
  pub handle : ℕ
  pub packet : List ℕ
  pub level : ℕ

abbrev pub planned : ℕ → List ℕ → ℕ → ℕ → ℕ → List ℕ → ℕ → Plan
planned sockets records socket service handle packet level =
    record { sockets = sockets; records = records; socket = socket; service = service; handle = handle; packet = packet; level = level }

-- the codes and numbers that the five entries after cs_fresh answered
pub record Told : Type 0 where
  pub booted : Code
  pub place : ℕ
  pub inserted : Code
  pub called : Code
  pub answered : ℕ
  pub shared : Code
  pub count : ℕ
  pub removed : Code

-- the events of a visit, first to last, in which the packet was left as q: each has what the plan gives
abbrev pub log : Plan → List ℕ → Told → List Event
log g q t =
    boot g.records t.booted t.place
    ∷ card_in g.socket t.inserted
    ∷ call g.service g.handle g.packet t.called t.answered q
    ∷ sharers g.level t.shared t.count
    ∷ card_out g.socket t.removed
    ∷ []

-- what came about is a run from a fresh table to the bytes b, the numbers that C was answered are those of its events, and all that a caller may rely
-- on after a run holds
pub record Visited (g : Plan) (q : List ℕ) (r : VisitAnswers) (b : List ℕ) : Type 0 where
  pub told : Told
  pub run : FromFresh Ours g.sockets (log g q told) b
  pub numbers : map number_in (log g q told) ≡ r.booted ∷ r.inserted ∷ r.called ∷ r.shared ∷ r.removed ∷ []
  pub after : AfterRun g.sockets (log g q told) b

-- cs_fresh was refused, and nothing is changed; or what came about is a run from a fresh table
abbrev pub EndingIs : Plan → List ℕ → List ℕ → List ℕ → Result VisitAnswers ℕ → Type 0
EndingIs g b b' q (Err r) = (k : Code) × (r ≡ number_in (make_fresh g.sockets k)) × (k ≢ Success) × (b' ≡ b) × (q ≡ g.packet)
EndingIs g b b' q (Ok r) = Visited g q r b'
