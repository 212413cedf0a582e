-- Sets of numbers and stretches of zeros, which the contracts of other crates cite. Assumes nothing.
pub mod Sets
pub mod Zeros
pub use Sets.{Covers, HasJust, SomeBelow}
pub use Zeros.{FourZero, eight}
