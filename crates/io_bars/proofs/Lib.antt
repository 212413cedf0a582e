-- The bars of grants and gaps: laws. Assumes nothing.
pub mod Barring
pub mod Said
pub use Barring.{bar_is}
pub use Said.{OfSeat, OfGap, seat_below, seat_fits, grants_are, gaps_are}
