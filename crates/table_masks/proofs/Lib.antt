-- Laws of the rows of masks. Assumes nothing.
pub mod Rows
pub use Rows.{under_sound, sound_under, steps_are}
