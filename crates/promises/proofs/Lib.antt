-- The laws of the entries' promises. Assumes nothing.
pub mod Laws
pub use Laws.{laws}
