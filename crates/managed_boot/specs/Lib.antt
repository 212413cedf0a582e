-- What the boot list comes to. Assumes nothing.
pub mod Booting
pub use Booting.{at_once, AddsRecord, place_of, code_of, Refuses, Ends, BootsRecords, Boots}
