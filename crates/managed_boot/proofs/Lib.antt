-- The walk along a boot list, over a slice of records and over bytes. Assumes nothing.
pub mod Bytes
pub mod Walking
pub use Bytes.{taken_more}
pub use Walking.{range_adds, level_adds, Walked, walked_none, ends_length, walked_length, walked_through, walked_one}
pub use Walking.{walked_refused, bytes_all, bytes_broken, bytes_more, bytes_stopped}
