-- Which ports count and how far they go on, the lowest candidate among them, and what they say of the facts. Assumes nothing.
pub mod Choosing
pub mod Runs
pub mod Said
pub mod Searching
pub mod Steps
pub mod Wanting
pub use Choosing.{none_found}
pub use Runs.{Run, run_start, run_more, reach_stopped}
pub use Said.{BarsOnly, BarsAll, first_by, none_marked}
pub use Searching.{open_found, open_none, NoneIn, lowest_in, lowest_of, none_of}
pub use Steps.{smallest_power, smallest_power_lines}
pub use Wanting.{barred_taken, found_taken}
