-- What the contracts of `io_meeting` cite. Assumes nothing.
pub mod Meeting
pub use Meeting.{MeetsAt}
