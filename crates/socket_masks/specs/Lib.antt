-- What the contracts of `socket_masks` cite. Assumes nothing.
pub mod Masks
pub use Masks.{EventsAre}
