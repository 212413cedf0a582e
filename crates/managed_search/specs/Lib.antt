-- What the contracts of `managed_search` cite. Assumes nothing.
pub mod Skipping
pub use Skipping.{Skipped}
