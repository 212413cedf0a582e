-- What the actions are given and answer. Assumes nothing.
pub mod Adjusting
pub use Adjusting.{ServesBy, Reached, Shows}
