-- Laws of a seat's record. Assumes nothing.
pub mod Records
pub use Records.{enters_ports, no_ports, ports_said, enters_level, no_level, level_held, other_level}
