-- What the contracts of `table_masks` cite. Assumes nothing.
pub mod Masks
pub use Masks.{StepsAre, RowUnder, RowsUnder}
