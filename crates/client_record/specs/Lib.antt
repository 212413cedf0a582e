-- What the contracts of `client_record` cite. Assumes nothing.
pub mod Finding
pub use Finding.{ListedAt, Finds}
