-- What is asked of managed levels. Assumes nothing.
pub mod Asked
pub use Asked.{AddsLevel, RemovesLevel, NextLevelIs}
