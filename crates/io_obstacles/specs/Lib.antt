-- What the contracts of `io_obstacles` cite. Assumes nothing.
pub mod Powers
pub mod Unique
pub mod Rows
pub mod Stretches
pub mod Searches
pub use declared.rows.Bar.{Bar}
pub use declared.rows.Bars.{Bars}
pub use declared.stretches.Stretch.{Stretch}
pub use declared.Wanted.{Wanted}
pub use declared.Search.{Search}
pub use Powers.{around, Power, Multiple, FirstMultiple, Period, LiesFrom, Leaps}
pub use Rows.{LiesInBar, LiesShort, bar_at, LiesInFirst, LiesInBars}
pub use Stretches.{Lies, StretchFits, Barring, Repeats, StretchBetween, LearntIs, Everywhere}
pub use Searches.{grant_places, gap_places, BarredBy, BarredFor, Barred, Opened, OpenedIs}
