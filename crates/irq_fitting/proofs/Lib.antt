-- The levels that grants hold, those that fit, those that can be joined, and the lowest bit of a mask. Assumes nothing.
pub mod Bits
pub mod Marks
pub mod Fit
pub mod Joined
pub mod Held
pub use Bits.{trailing_lowest}
pub use Marks.{managed_read, reserved_read, reserved_by, unreserved_by}
pub use Fit.{level_below, fits_said, said_free, all_barred, all_fitting, unreserved_taken, reserved_taken, none_fits, none_here, unreserved_here, reserved_here}
pub use Joined.{joined_said, lowest_taken, first_is_taken}
pub use Held.{none_at, held_below, goes_at, stands_at}
