-- What the contracts of `grants` cite. Assumes nothing.
pub mod Grants
pub use Grants.{LevelOf}
