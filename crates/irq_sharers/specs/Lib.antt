-- What the contracts of `irq_sharers` cite. Assumes nothing.
pub mod Sharing
pub use Sharing.{count_of}
