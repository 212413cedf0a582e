-- Laws of the definitions: of answers, of sets, of company, and of what is permitted; and those that specs/Laws states. Assumes nothing.
pub mod Words
pub mod Says
pub mod Handing
pub mod Sets
pub mod Codes
pub mod Bits
pub mod Choices
pub mod Company
pub mod Joining
pub mod Resources
pub mod Unique
pub mod Refusals
pub mod Sharing
pub mod Told
pub mod Formed
pub mod ClientsStay
pub mod ResourcesStay
pub mod Places
pub mod Boot
pub mod GrantsStay
pub mod Stays
pub mod Exactly
pub mod Laws
pub use Says.{says_true, says_false, says_lt, says_eq, says_eqb, says_as, says_yes, says_no, says_not, says_false_by, says_both, says_dec}
pub use Handing.{handed, given, missing}
pub use Sets.{put_same, put_other, put_is, in_left, in_right, in_either, in_map, map_in, length_map, by_number, without_in, in_without, rising_over}
pub use Sets.{rising_more, rising_left_out, apart_port, apart_left_out}
pub use Bits.{one_bit, one_only, shifted_bit, shifted_only, bit_below, one_named, named_one}
pub use Codes.{code_byte, code_injective, packs_success, packs_code}
pub use Choices.{chosen_first, chosen_then, smallest_power_unique}
pub use Company.{meet_symmetric, together_symmetric}
pub use Joining.{taken_fits}
pub use Resources.{is_built, three_or_four, width_one}
pub use Unique.{lowest_unique, range_unique, number_injective, adjust_unique, register_unique, deregister_unique, request_irq_unique}
pub use Unique.{request_io_unique, sharers_unique}
pub use Refusals.{no_success, none_succeeds, first_not_success, ruled_then_success, record_no_success, boot_place, boot_within, boot_success}
pub use Told.{told, Unreserved, wholly_unreserved_told}
pub use Formed.{fresh_formed, own_answers, listing, card_formed, clients_formed, level_formed, ranges_formed, io_formed, irq_formed}
pub use ClientsStay.{live_passed, request_passed, register_stays, mask_formed}
pub use ResourcesStay.{level_added_formed, inserted_cases, inserted_more, inserted_in, in_inserted, new_inserted, range_added_formed, boot_stays}
pub use Boot.{records_length}
pub use Exactly.{exactly_when}
pub use Laws.{service_laws, host_laws, bytes_laws}
