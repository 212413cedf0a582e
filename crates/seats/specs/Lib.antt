-- What the contracts of `seats` cite. Assumes nothing.
pub mod Seats
pub mod Sound
pub use Seats.{range, grant, Recorded, HeldIs, LevelHeldIs, io_at, irq_at, HeldBy, IoHeldBy, IrqHeldBy}
pub use Sound.{PlacesSound, CompanySound, SeatSound, IosSound, IrqsSound}
