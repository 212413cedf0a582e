-- A call that one rule permits is one that another does; a resource type that is refused. Assumes nothing.
pub mod Changing
pub use Changing.{served_as, type_refused}
