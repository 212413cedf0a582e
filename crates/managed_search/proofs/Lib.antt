-- A walk past the managed ports. Assumes nothing.
pub mod Passing
pub use Passing.{Passed, skipped_none, skipped_to, skipped_passed, passed_stay, passed_move, passed_found, passed_says, passed_stop}
