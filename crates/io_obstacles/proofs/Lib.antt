-- Bars of bases, and the search that leaps past them: laws. Assumes nothing.
pub mod Leaping
pub mod Steps
pub mod Searching
pub mod Repeating
pub use Leaping.{masked, leap_over, wrapped_behind, leaps, leaps_bar, leap_start, leap_more}
pub use Steps.{power_positive, power_most, rounded}
pub use Searching.{AllBarred, leap_barred, Gone, gone_start, gone_on, gone_along, gone_free, gone_past, gone_as, leap_grants, leap_gaps}
pub use Repeating.{period_is, stretch_repeats, rows_repeat, bars_repeat, barred_repeat, bars_more, learnt_barring, nowhere_barring, barring_as}
