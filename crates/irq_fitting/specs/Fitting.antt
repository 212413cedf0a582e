-- Which levels fit a request, and which it goes together with, as sets; and what the choice among them answers. Assumes nothing.
use Rattle.std.specs.Prelude.{◌≡◌, List, Bool, true, false, ℕ, Option, Some, None}
use Rattle.facts.specs.declared.IrqAsked.{IrqAsked}
use Rattle.facts.specs.declared.Manner.{Manner}
use Rattle.facts.specs.Table
use Rattle.facts.specs.Table.{Facts, Seat, IrqGrant}
use Rattle.facts.specs.Packets.{bit}
use Rattle.facts.specs.Choice.{Lowest}
use Rattle.facts.specs.Levels.{Together, Holds}
use Rattle.facts.specs.Irq.{Fits, NoLevelFits, FirstFitting, LevelTaken}
use Rattle.layout.specs.Sound.{Accepted}
use Rattle.table_read.specs.Sets.{HasJust, SomeBelow}
use Rattle.irq_fitting.specs.declared.Levels.{Levels}
use Rattle.irq_fitting.specs.declared.Fitting.{Fitting}

-- a grant of the manner m goes together with the request: First Shared isn't set, and its manner goes together with the one asked for
pub record Goes (q : IrqAsked) (m : Manner) : Type 0 where
  pub not_first : q.first ≡ false
  pub together : Together m q.manner

-- at the seat s the level l is held in a manner that is P
abbrev pub HeldAs : Facts → (Manner → Type 0) → Seat → ℕ → Type 0
HeldAs F P s l = (g : IrqGrant) × Holds F l s g × P g.manner

-- by a grant that stands in the way of the request, or goes together with it
abbrev pub StandsAt : Facts → IrqAsked → Seat → ℕ → Type 0
StandsAt F q = HeldAs F (λ m. Goes q m → ⊥)

abbrev pub GoesAt : Facts → IrqAsked → Seat → ℕ → Type 0
GoesAt F q = HeldAs F (Goes q)

-- the levels that the grant at the seat s holds
pub record LevelsAt (F : Facts) (q : IrqAsked) (s : Seat) (r : Levels) : Type 0 where
  pub way : HasJust r.way (StandsAt F q s)
  pub together : HasJust r.together (GoesAt F q s)

-- the levels on which some seat's grant does the one or the other
abbrev pub LevelBarred : Facts → IrqAsked → ℕ → Type 0
LevelBarred F q = SomeBelow Table.most_seats (StandsAt F q)

abbrev pub InCompany : Facts → IrqAsked → ℕ → Type 0
InCompany F q = SomeBelow Table.most_seats (GoesAt F q)

pub record LevelsHeld (F : Facts) (q : IrqAsked) (r : Levels) : Type 0 where
  pub way : HasJust r.way (LevelBarred F q)
  pub together : HasJust r.together (InCompany F q)

-- the level l fits, and is reserved or not
abbrev pub FitsAs : Facts → IrqAsked → Bool → ℕ → Type 0
FitsAs F q reserved l = Fits F q l × ((F.level l).reserved ≡ reserved)

-- the level l does, and is k
abbrev pub FitsHere : Facts → IrqAsked → Bool → ℕ → ℕ → Type 0
FitsHere F q reserved l k = FitsAs F q reserved l × (l ≡ k)

-- the level l, if it fits
pub record FittingAt (F : Facts) (q : IrqAsked) (l : ℕ) (r : Fitting) : Type 0 where
  pub unreserved : HasJust r.unreserved (FitsHere F q false l)
  pub reserved : HasJust r.reserved (FitsHere F q true l)

-- all levels that fit
pub record LevelsFitting (F : Facts) (q : IrqAsked) (r : Fitting) : Type 0 where
  pub unreserved : HasJust r.unreserved (FitsAs F q false)
  pub reserved : HasJust r.reserved (FitsAs F q true)

-- l is the lowest number that the set has
abbrev pub LowestIn : ℕ → ℕ → Type 0
LowestIn set = Lowest (λ k. bit set k ≡ 1)

-- the first of the levels that fit, or none does
abbrev pub FirstIs : Facts → IrqAsked → Option ℕ → Type 0
FirstIs F q (Some l) = FirstFitting F q l
FirstIs F q None = NoLevelFits F q

-- the level that is taken, or none fits
abbrev pub TakenIs : List ℕ → IrqAsked → Option ℕ → Type 0
TakenIs b q (Some l) = (a : Accepted b) → LevelTaken a.facts q l
TakenIs b q None = (a : Accepted b) → NoLevelFits a.facts q
