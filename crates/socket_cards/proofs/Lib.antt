pub mod Cards
pub use Cards.{mark_byte, in_table, card_past, card_done}
