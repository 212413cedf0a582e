-- The cases by number, those of later requests, and the laws that they rest on. Assumes nothing.
pub mod Permitted
pub mod Ports
pub mod Levels
pub mod Cases
pub mod Joining
pub mod Answering
pub use Permitted.{as_left, as_kept, ◌then◌, ◌nor◌, listed_alone}
pub use Levels.{alone_taken, bits-A3}
pub use Cases.{cases}
