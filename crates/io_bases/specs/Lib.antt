-- What the contracts of `io_bases` cite. Assumes nothing.
pub mod Bases
pub use Bases.{AskedFits, PortsAre, StandsAt, WayIs, BaseIs}
