-- What the contracts of `managed_changes` cite. Assumes nothing.
pub mod Changing
pub mod Named
pub use Changing.{Changes, ReserveIs}
pub use Named.{number, ResourceIs}
