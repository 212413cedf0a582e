-- What the contracts of `table_lists` cite. Assumes nothing.
pub mod Parts
pub use Parts.{LevelsSound, RangeFollows, RangeMarked, SeatsEnd}
