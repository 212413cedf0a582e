-- Ports that meet some that are held. Assumes nothing.
pub mod Held
pub use Held.{meets_held, meets_some, Fits, held_fits}
