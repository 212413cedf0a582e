-- What the bytes say of a named base, and each way to the base that is taken. Assumes nothing.
pub mod Said
pub mod Ends
pub use Said.{all_managed, none_stands, meets_stands, apart_says, way-said, said_way}
pub use Ends.{unmanaged, held, free, none, first, low}
