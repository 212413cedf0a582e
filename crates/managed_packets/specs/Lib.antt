-- What the packets' fields say. Assumes nothing.
pub mod Fields
pub use Fields.{number_of, ActionIs, NamesBoth, HeadIs, FormIs, AskedIs, FromIs, Written, attributes_shown_lem, handle_shown_lem}
