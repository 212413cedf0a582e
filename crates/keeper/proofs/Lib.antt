-- The ways in which an entry ends. Assumes nothing.
mod Ends
pub use Ends.{call_unformed, card_unformed, boot_unformed, sharers_unformed, NoService, unsupported, by_service, boots, low_place}
