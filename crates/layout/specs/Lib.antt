pub mod Layout
pub mod Reading
pub mod Sound
pub mod Served
pub mod Changed
pub use Layout.{table_size, layout_mark, client_room, handle_room, seat_room, head_sockets, head_clients, head_ranges, head_issued, head_size, level_reserved_at}
pub use Layout.{range_count_at, range_reserved_at, io_base_at, io_count_at, io_lines_at, io_shared_at, io_spare_at, irq_level_at, irq_manner_at, card_size, level_size}
pub use Layout.{range_size, handle_size, attributes_size, events_size, io_size, irq_size, spare_size, mask_size, masks_size, cards_at, levels_at, ranges_at}
pub use Layout.{handles_at, attributes_at, events_at, ios_at, irqs_at, spare_at, masks_at, rest_at, mark, two, four, mask_bytes, handle_bytes, attributes_bytes}
pub use Layout.{events_bytes, masks_bytes, level_bytes, range_bytes, io_bytes, manner_byte_lem, irq_bytes, image}
unfoldable pub use Layout.{each, rest, head, cards, levels, ranges, handles, attributes, events, ios, irqs, spare, masks, image_of}
pub use Reading.{below, marked, sockets_in, clients_in, ranges_in, issued_in, level_place, range_place, handle_place, attributes_place, events_place}
pub use Reading.{masks_place, mask_place, io_place_lem, irq_place_lem, handle_in, mask_of, ports_in, manner_of_lem}
unfoldable pub use Reading.{up_to, client_in, range_in, level_in, io_in, irq_in, io_here, irq_here, facts_in}
pub use Sound.{Accepted, Zero, CountsSound, CardSound, LevelSound, handle_before, MaskSound, MaskUsed, ClientSound, ClientsSound, ClientsEnd, MasksSound, range_base}
pub use Sound.{range_count, end_before_lem, RangeSound, RangesSound, LiveIn, ManagedIn, IoSound, IoUsed, IoPlaceSound, IrqSound, IrqUsed, IrqPlaceSound}
pub use Sound.{IoPairSound, IrqPairSound}
pub use Served.{ServedBy, TableRefused}
pub use Changed.{ClosedUp, Withdrawn, TakenOut, PutIn}
unfoldable pub use Changed.{entered, io_entered, irq_entered}
