-- What the contracts of `io_bars` cite. Assumes nothing.
pub mod Bars
pub use Bars.{most_ports, BarIs, seat_ports, PortsFit, GrantBars, GrantBarsOf, GapBars}
