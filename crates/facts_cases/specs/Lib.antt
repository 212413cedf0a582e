-- The cases by number, and those of later requests. Assumes nothing.
pub mod Answering
pub mod Cases
pub mod Joining
pub use Answering.{boards_ports, all_added, alike, lines_packet, remove_packet, AnsweringCases}
pub use Cases.{Exactly, done, refused, ports, range, managing, ready, two_levels, granting_irq, granting_io, three_held, both_held, one_sharer, two_sharers}
pub use Cases.{half_held, unheld_range, one_client, no_client, irq_packet, io_packet, client_packet, add_packet, first_packet}
pub use Joining.{either, sharing, first_shared, alone, five_held, both_shared, JoiningCases}
