-- The number of sharers is the answer. Assumes nothing.
pub mod Counting
pub use Counting.{sharers_done}
