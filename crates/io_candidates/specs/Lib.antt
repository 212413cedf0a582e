-- What the contracts of `io_candidates` cite. Assumes nothing.
pub mod Candidates
pub use Candidates.{reserve_mark, Counts, FollowsOn, ReachIs, SomeMarked, Free, FreeBetween, CandidateIn, StartsIn, LowestIs, Searched}
pub use Candidates.{FirstIs, Wants, TakenIs}
