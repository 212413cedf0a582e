-- What the contracts of `service_answers` cite. Assumes nothing.
pub mod Answers
pub use Answers.{handle_of}
