-- Laws of the holders at one seat, at those passed, and of what is shown of all of them. Assumes nothing.
pub mod Here
pub mod Least
pub mod Shown
pub use Here.{level_free, level_other, level_here, ports_free, ports_other, ports_here}
pub use Least.{holders_more}
pub use Shown.{level_shown, range_shown}
