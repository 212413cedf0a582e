pub mod Parts
pub mod Lists
pub mod Written
pub mod Entered
pub mod Image
pub mod Shows
pub mod Records
pub mod Grants
pub mod RoundTrip
pub mod Said
pub mod Whole
pub mod Formed
pub mod Sounds
pub mod Of
pub mod Grows
pub mod Accepts
pub mod Changes
pub mod Clients
pub mod Managed
pub mod Masks
pub mod Irqs
pub mod Ios
pub mod Serve
pub use Parts.{below_at}
pub use Lists.{below_in, below_past}
pub use Written.{byte_same, byte_other, word_length, word_low, word_high, word_other, long_length, long_other}
pub use Entered.{long_bytes}
pub use Shows.{shows_image}
pub use Grants.{zero_test, positive_test, used_sound}
pub use RoundTrip.{manner_back, live_positive}
pub use Sounds.{manner_most}
pub use Of.{size_in, sockets_in_lem, clients_in_lem, sound_in}
pub use Grows.{image_grows}
pub use Accepts.{sound_accepted, accepted_sound, one_set, image_size}
pub use Changes.{card_written, fresh_shown}
pub use Clients.{entered_image, withdrawn_image}
pub use Managed.{range_end, end_before, end_next, ends_before, bases_rise, HasPort, same_range, range_placed, range_taken_out, range_put_in}
pub use Managed.{level_written}
pub use Masks.{mask_socket, mask_said, said_mask, mask_written}
pub use Ios.{granted_image, released_image, ports_are}
pub use Serve.{kept, left, stays, becomes, refused_by, done_by}
