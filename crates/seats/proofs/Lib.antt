-- Laws of what is held at a seat. Assumes nothing.
pub mod Records
pub mod Said
pub use Records.{zero_sound, sound_zero, ports_held, client_held, lines_held, held_fits, held_port, held_lines}
pub use Said.{formed_in, io_read, irq_read, io_held_lem, irq_held_lem, io_said_by, io_by_said, irq_said_by, irq_by_said}
