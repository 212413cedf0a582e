-- What the contracts of `table_ios` cite. Assumes nothing.
pub mod Parts
pub use Parts.{InRange, RangeHas, RangeServes, PortsSound, LinesAt, FewestLines, GapsServe}
