-- What the contracts of `table_company` cite. Assumes nothing.
pub mod Answering
pub mod Rows
pub use Answering.{block_of, BlocksWithin, AnswersInBlock, BlocksOf, CompaniesSound, SharedAt, AllShared}
pub use Rows.{numbers_at, NumbersAre, RowsAre, over_of, reached, RowsApart}
