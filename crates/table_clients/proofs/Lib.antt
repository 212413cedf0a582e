-- Laws of clients that follow one another. Assumes nothing.
pub mod Places
pub use Places.{type_says, listed, place_listed, counted_listed, end_listed}
