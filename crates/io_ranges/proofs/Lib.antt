-- When two ranges meet, and where a card answers: laws. Assumes nothing.
pub mod Answering
pub mod Meeting
pub mod Remainders
pub use Answering.{answers_meet, meet_answers, answers_own}
pub use Remainders.{all_ports_mod, meet_near, near_meet, meet_says, mod_fewer, meet_repeats}
