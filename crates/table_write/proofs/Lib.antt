pub mod Writing
pub use Writing.{fresh_image}
