-- What the contracts of `irq_levels` cite. Assumes nothing.
pub mod Apart
pub mod Levels
pub use Apart.{MarksApart, MannersApart}
pub use Levels.{LevelIs}
