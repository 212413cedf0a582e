-- Laws of the blocks in which grants answer, and of what a grant reaches of another. Assumes nothing.
pub mod Answering
pub mod Reaching
pub use Answering.{blocks_within_lem, own_blocks, blocks_more, companies_more, shared_company}
pub use Reaching.{apart_says}
