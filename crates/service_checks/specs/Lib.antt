-- What the contracts of `service_checks` cite. Assumes nothing.
pub mod Checking
pub mod Beginning
pub use Checking.{CountedIs, NamesSocket, SocketNamedIs, CardEnough}
pub use Beginning.{checks_ahead, BegunAt, BegunIs}
