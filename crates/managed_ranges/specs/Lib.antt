-- What is asked of managed ranges. Assumes nothing.
pub mod Asked
pub use Asked.{AddsRange, RemovesRange, NamesPorts, PortsNamedIs, PutsRange, TakesRange, PlaceOf, StartIs, FreeAt}
pub use Asked.{FreeIs, Entered, FoundAt, FoundIs, NextIs, NextRangeIs}
