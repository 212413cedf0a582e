-- Laws of what holds below a bound, of bits and sets, and of bytes that are zero. Assumes nothing.
pub mod Below
pub mod Bits
pub mod Covering
pub mod Flaws
pub mod Sets
pub mod Some
pub mod Zeros
pub mod Quarters
pub use Below.{All, all_none, all_more, SoFar, so_far_none, so_far_more}
pub use Bits.{lowest_bit, higher_bit, no_bit}
pub use Flaws.{Flawless, flawless_none, flawless_more, flawless_says}
pub use Covering.{all_bits, none_common, common_says}
pub use Sets.{one_shifted, or_left, or_right, exactly_none, exactly_empty, exactly_one, bit_and_lem}
pub use Sets.{exactly_both, exactly_as, exactly_more}
pub use Some.{any_says}
pub use Zeros.{zero_where, or_says, long_zero, zero_long, Gathered, gathered_none, gathered_more, gathered_joined, gathered_eight, gathered_says, place_false, place_says, live_used}
pub use Quarters.{quarters_none, quarters_more, quarters_says, quarters_join, four_within}
