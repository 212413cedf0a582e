-- What a yes or no answer says. Assumes nothing.
use Rattle.std.specs.Prelude.{◌≡◌, Bool, true, false}

-- r decides P
pub record Says (r : Bool) (P : Type 0) : Type 0 where
  pub holds : r ≡ true → P
  pub fails : r ≡ false → P → ⊥
