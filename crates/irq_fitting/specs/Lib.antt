-- What the contracts of `irq_fitting` cite. Assumes nothing.
pub mod Fitting
pub use Fitting.{Goes, HeldAs, StandsAt, GoesAt, LevelsAt, LevelBarred, InCompany, FitsAs, FitsHere, FittingAt, LevelsFitting, LowestIn, FirstIs}
pub use Fitting.{TakenIs}
