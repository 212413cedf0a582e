-- What the contracts of `io_services` cite. Assumes nothing.
pub mod Granting
pub use Granting.{asked_entered}
