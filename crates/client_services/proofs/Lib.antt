-- Each end of RegisterClient and DeregisterClient. Assumes nothing.
mod Ends
pub use Ends.{withdrawn_size, register_refused, register_bad, register_full, register_done, found_live, holds_all, deregister_refused, deregister_done}
