-- The table of the sharing rule: one test over its entries, and its law. Assumes nothing.
pub mod Table
pub mod Rule
pub use Rule.{byte_lt, rule_says, marks_apart}
