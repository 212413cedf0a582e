-- What a search among the clients listed finds. Assumes nothing.
use Rattle.std.specs.Prelude.{◌≡◌, ◌≢◌, List, ℕ, ◌-◌, ◌≤◌, ◌<◌, Option, Some, None}
use Rattle.layout.specs.Reading.{clients_in, handle_in}
use Rattle.layout.specs.Sound.{LiveIn}

-- the client h is listed in the place i
pub record ListedAt (b : List ℕ) (h i : ℕ) : Type 0 where
  pub listed : i < clients_in b
  pub handle : handle_in b i ≡ h

-- where the search finds the client h, or that nobody listed has this handle
abbrev pub Finds : List ℕ → ℕ → Option ℕ → Type 0
Finds b h (Some i) = ListedAt b h i
Finds b h None = LiveIn b h → ⊥

-- the client h is listed in the place h - 1
pub record ByNumber (b : List ℕ) (h : ℕ) : Type 0 where
  pub least : 1 ≤ h
  pub listed : h ≤ clients_in b
  pub handle : handle_in b (h - 1) ≡ h

-- a number is 0 exactly if P isn't so
pub record Tells (n : ℕ) (P : Type 0) : Type 0 where
  pub none : n ≡ 0 → P → ⊥
  pub some : n ≢ 0 → P
