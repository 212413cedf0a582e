-- What the contracts of `socket_cards` cite. Assumes nothing.
pub mod Counts
pub use Counts.{SocketsAre}
