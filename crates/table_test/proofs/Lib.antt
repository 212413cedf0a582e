-- Laws of the cards, of the seats of sockets, and of those that no socket has. Assumes nothing.
pub mod Cards
pub mod Seats
pub use Cards.{sound_end, marked_sound, Marked, mark_says}
pub use Seats.{io_places, irq_places, io_pairs, irq_pairs, no_seats, sockets_of, rest_of, parts_sound}
