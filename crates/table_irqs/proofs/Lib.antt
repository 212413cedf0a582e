-- Laws of the levels that grants hold in their manners. Assumes nothing.
pub mod Manners
pub use Manners.{own_held, apart_against, held_says}
