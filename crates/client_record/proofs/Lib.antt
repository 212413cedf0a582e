-- Laws of a search with no early exit. Assumes nothing.
pub mod Gathering
pub use Gathering.{flag_tells, some_none, some_more, tells_says}
