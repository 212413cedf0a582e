-- Each end of RequestIRQ and ReleaseIRQ. Assumes nothing.
pub mod Ends
pub use Ends.{requesting, releasing, request_attributes, request_info, request_held, request_none}
pub use Ends.{request_done, release_unheld, release_differs, release_done}
