-- What the contracts of `table_test` cite. Assumes nothing.
pub mod Loading
pub mod Sockets
pub use Loading.{ListsSound, RestSound}
pub use Sockets.{CardsMarked, CardsEnd, CardsSound, SocketsSound}
