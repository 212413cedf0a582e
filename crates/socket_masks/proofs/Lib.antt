-- Each end of the services on masks. Assumes nothing.
mod Ends
pub use Ends.{requesting, releasing, in_table, request_bad, request_held, request_done, release_nothing, release_done}
