-- Demand 3, clause by clause, of a keeper. Assumes nothing.
use Rattle.std.specs.Prelude.{◌≡◌, ◌↔◌, ◌≢◌, List, [], ◌∷◌, ◌++◌, true, ℕ, ◌+◌, ◌≤◌, length}
use Rattle.facts.specs.declared.Code.{Code}
use Rattle.facts.specs.declared.Code.TheVariants.{Success}
use Rattle.facts.specs.Table
use Rattle.facts.specs.Table.{Facts, IoGrant, IrqGrant}
use Rattle.facts.specs.Sets.{◌∈◌}
use Rattle.facts.specs.Ports.{Meet}
use Rattle.facts.specs.Levels.{Together}
use Rattle.layout.specs.Sound.{Accepted}
use Rattle.history.specs.Events.{Event, Keeper, Runs, FromFresh, card_out, sharers}
use Rattle.history.specs.Stands.{Fact, card, io, irq, Stands, StandsSince, Registers, registrations}
use Rattle.history.specs.Tables.{Tells, TellsExactly, Between}
use Rattle.history.specs.Names.{Framed}

-- demand 3: "after any run of calls, the table holds exactly what one works out afresh from the calls and answers alone". A run up to any of its
-- events is a run too, so it is so after every event.
abbrev pub Exact : Keeper → Type 0
Exact K = (n : ℕ) (es : List Event) (b : List ℕ) → FromFresh K n es b → TellsExactly b n (registrations es) (Stands es)

-- the same from any accepted table: what it said and no event gave back stands too
abbrev pub ExactSince : Keeper → Type 0
ExactSince K =
    (b b' : List ℕ) (es : List Event) (a : Accepted b) → Runs K b es b'
    → TellsExactly b' a.facts.sockets (a.facts.issued + registrations es) (StandsSince (Tells a.facts) es)

-- demand 3: "every fact that a call's rule doesn't name reads as before"
abbrev pub Frame : Keeper → Type 0
Frame K = (e : Event) (b b' : List ℕ) → Accepted b → K e b b' → Between b b' (Framed e)

-- "Card out takes no grant or mask away.": every fact but the card itself reads as before
abbrev pub CardOutKeeps : Keeper → Type 0
CardOutKeeps K =
    (s : ℕ) (k : Code) (b b' : List ℕ) → Accepted b → K (card_out s k) b b'
    → Between b b' (λ (F G : Facts). (f : Fact) → f ≢ card s → Tells F f ↔ Tells G f)

-- "each issued once in a table's life; 0 is never live": a handle registered isn't 0, and no later event registers it
abbrev pub NeverAgain : Keeper → Type 0
NeverAgain K =
    (n : ℕ) (earlier later : List Event) (e : Event) (h : ℕ) (b : List ℕ) → FromFresh K n (earlier ++ (e ∷ later)) b → Registers e h
    → (h ≢ 0) × ((e' : Event) → e' ∈ later → Registers e' h → ⊥)

-- none is listed twice
abbrev pub Once : List ℕ → Type 0
Once [] = Unit {0}
Once (x ∷ xs) = (x ∈ xs → ⊥) × Once xs

-- n is the number of those of which P holds: they can be listed, each once
pub record Number (P : ℕ → Type 0) (n : ℕ) : Type 0 where
  pub those : List ℕ
  pub each : (x : ℕ) → (x ∈ those) ↔ P x
  pub once : Once those
  pub count : length those ≡ n

-- demand 3: "sharer counts are the live grants"; "never over 8"
abbrev pub SharersCounted : Keeper → Type 0
SharersCounted K =
    (n : ℕ) (es : List Event) (b b' : List ℕ) (l c : ℕ) → FromFresh K n es b → K (sharers l Success c) b b'
    → Number (λ (s : ℕ). (g : IrqGrant) × Stands es (irq s g) × (g.level ≡ l)) c × (c ≤ Table.most_sockets)

-- "at most one I/O grant .. and one IRQ grant .. for each socket": no two of a kind stand
pub record OneGrant (K : Keeper) : Type 0 where
  pub io_one : (n : ℕ) (es : List Event) (b : List ℕ) (s : ℕ) (g g' : IoGrant) → FromFresh K n es b → Stands es (io s g) → Stands es (io s g') → g ≡ g'
  pub irq_one : (n : ℕ) (es : List Event) (b : List ℕ) (s : ℕ) (g g' : IrqGrant) → FromFresh K n es b → Stands es (irq s g) → Stands es (irq s g')
      → g ≡ g'

-- demand 3: "no two live grants meet on a level or a decoded port unless both asked to share in the same manner": of two that stand and differ
abbrev pub PortsApart : Keeper → Type 0
PortsApart K =
    (n : ℕ) (es : List Event) (b : List ℕ) (s s' : ℕ) (g g' : IoGrant) → FromFresh K n es b → Stands es (io s g) → Stands es (io s' g')
    → io s g ≢ io s' g' → Meet g.ports g'.ports → (g.shared ≡ true) × (g'.shared ≡ true)

abbrev pub LevelsApart : Keeper → Type 0
LevelsApart K =
    (n : ℕ) (es : List Event) (b : List ℕ) (s s' : ℕ) (g g' : IrqGrant) → FromFresh K n es b → Stands es (irq s g) → Stands es (irq s' g')
    → irq s g ≢ irq s' g' → g.level ≡ g'.level → Together g.manner g'.manner

-- all of it
pub record Demand3 (K : Keeper) : Type 0 where
  pub exact : Exact K
  pub exact_since : ExactSince K
  pub frame : Frame K
  pub card_out_case : CardOutKeeps K
  pub never_again : NeverAgain K
  pub sharers_counted : SharersCounted K
  pub one_grant : OneGrant K
  pub ports_apart : PortsApart K
  pub levels_apart : LevelsApart K
