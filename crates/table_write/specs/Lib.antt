pub mod Writing
pub use Writing.{RoomMade}
