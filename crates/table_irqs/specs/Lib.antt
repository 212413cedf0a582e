-- What the contracts of `table_irqs` cite. Assumes nothing.
pub mod Holding
pub use Holding.{held_as, HoldsAs, HeldBelow, Against}
