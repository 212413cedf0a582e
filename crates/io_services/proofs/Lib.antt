-- Each end of RequestIO and ReleaseIO. Assumes nothing.
pub mod Ends
pub use Ends.{requesting, releasing, lines_good, count_good, request_attributes, request-sizes}
pub use Ends.{request_held, request-base, request_done, release_second, release_unheld, release_done}
