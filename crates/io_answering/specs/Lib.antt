-- What the contracts of `io_answering` cite. Assumes nothing.
pub mod Gaps
pub mod Rows
pub use Gaps.{most_gaps, most_counted, start_at, gap_in, MeetsGap, AllManagedIn}
pub use Rows.{gap_at, counted, MeetsRows, RowsAre, GapsAre, LowBits, reach_of_lem, ahead_of, ports_from}
