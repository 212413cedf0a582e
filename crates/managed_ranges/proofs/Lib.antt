-- Where ranges stand, and the ways in which their changes end. Assumes nothing.
pub mod Places
pub mod Ends
pub use Places.{Down, down_found, untaken, next_none, next_found}
pub use Ends.{ports_wrong, own_change, put_taken, put_full, put_made, take_nowhere, take_held, take_made, enters}
