-- What the entries promise, and the laws of those promises. Assumes nothing.
pub mod Entries
pub mod Laws
pub use Entries.{CallPermitted, CallAnswers, CardPermitted, CardAnswers, SharersPermitted, SharersAnswers, FreshAllowed, FreshAnswers, BootPermitted}
pub use Entries.{BootAnswers}
pub use Laws.{TakenApart, CallLaws, CardLaws, SharersLaws, FreshLaws, BootLaws}
