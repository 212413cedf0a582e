-- What a caller's calls bring about is a run. Assumes nothing.
pub mod Relied
pub mod Visits
pub mod Whole
pub use Visits.{refused, visited}
