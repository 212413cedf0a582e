-- Laws over the width. Assumes nothing.
pub mod Widths
pub use Widths.{asked_at, few_at}
