-- What a caller may rely on, and what the contracts of `caller` cite. Assumes nothing.
pub mod Relied
pub mod Visits
pub use Relied.{AfterRun}
pub use Visits.{Plan, planned, Told, log, Visited, EndingIs}
