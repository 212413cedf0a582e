-- The ways in which AdjustResourceInfo ends. Assumes nothing.
pub mod Ends
pub use Ends.{made, refused_by, level_none, level_shown, range_none, range_too_many, range_shown, first_or_next, shows_either, too_short, action_over, resource_refused}
pub use Ends.{wrong_length, irq_serves, io_serves}
