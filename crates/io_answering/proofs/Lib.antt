-- Where a card answers, the gaps between the managed ranges, and their rows: laws. Assumes nothing.
pub mod Filling
pub mod Between
pub mod Walking
pub use Filling.{filling_start, filling_more, rows_are, gaps_say}
pub use Between.{ends_within, clear_answers, answers_clear, clear_says, own_says, past_unmanaged}
pub use Walking.{masked, ones_short, masked_behind, reach_filled, row_says}
