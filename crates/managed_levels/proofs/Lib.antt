-- A level is managed as its mark says, and held as its holders say; which level comes next. Assumes nothing.
pub mod Ends
pub use Ends.{managed_said, managed_marked, held_said, next_is}
