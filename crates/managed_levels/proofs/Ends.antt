-- A level is managed as its mark says, and held as its holders say; which level comes next. Assumes nothing.
use Rattle.std.specs.Prelude.{Option, Some, None, MatchOption, is_some}
use Rattle.facts.proofs.Words.{◌≡◌, ap, sym, ◌∙◌, ◌≢◌, Bool, List, true, ℕ, ◌≤◌, ◌<◌, arith, dec_le, eqb, eqb-true, Says}
use Rattle.facts.proofs.{says_true, says_false, says_eqb, told}
use Rattle.facts.specs.{Facts, Level, LevelHeld, byte, all_levels}
use Rattle.layout.proofs.Of
use Rattle.layout.specs.{level_place, level_in, Accepted}
use Rattle.managed_holders.specs.declared.Holders.{Holders}
use Rattle.managed_holders.specs.{HoldLevel}
use Rattle.managed_levels.specs.{NextLevelIs}

-- a level is managed as its mark says
module _ {b : List ℕ} (a : Accepted b) {l : ℕ} (low : l < all_levels) where
  managed_as : (a.facts.level l).managed ≡ eqb (byte b (level_place l)) 1
  unfolding level_in
  managed_as = ap (λ (v : Level). v.managed) (Of.level_said b a l low)

  pub managed_said : {r : Bool} → Says r (byte b (level_place l) ≡ 1) → (a.facts.level l).managed ≡ r
  managed_said s = managed_as ∙ sym (says_eqb _ (byte b (level_place l)) 1 s)

  pub managed_marked : (a.facts.level l).managed ≡ true → byte b (level_place l) ≡ 1
  managed_marked e = eqb-true (byte b (level_place l)) 1 (sym managed_as ∙ e)

pub held_said : {F : Facts} {l : ℕ} (r : Option Holders) → HoldLevel F l r → Says (is_some r) (LevelHeld F l)
held_said (Some x) h = says_true h.0
held_said None n = says_false n

-- the first marked level from a number on is the lowest managed one; where none is marked, none is managed
pub next_is : {b : List ℕ} (a : Accepted b) (from : ℕ) (r : Option ℕ)
    → MatchOption r ((l : ℕ) → from ≤ l → l < all_levels → byte b (level_place l) ≢ 1)
    (λ l. (from ≤ l) × (l < all_levels) × (byte b (level_place l) ≡ 1) × ((k : ℕ) → from ≤ k → k < l → byte b (level_place k) ≢ 1))
    → NextLevelIs b from r
next_is _ from None none = λ a k x h. let low = a.formed.levels k x in none k h low (managed_marked a low x)
next_is _ from (Some l) (h, low, e, none) = λ a.
    record {
      fits = (managed_said a low (says_true e), h);
      least = λ k x. told (dec_le l k) (λ n. none k x.1 (omega (arith, n)) (managed_marked a (a.formed.levels k x.0) x.0));
    }
