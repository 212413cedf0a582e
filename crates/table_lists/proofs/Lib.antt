-- Laws of ranges that follow one another. Assumes nothing.
pub mod Following
pub use Following.{Passed, passed_none, passed_more, sound_within, flawless_says_sound, passed_says, sound_follows}
