-- Who holds a resource. Assumes nothing.
pub mod Holders
pub use Holders.{LevelHolds, shown, PortsHold, HereIs, AreBelow, together, HoldLevel, LevelHoldersAre, HoldRange, RangeHoldersAre}
