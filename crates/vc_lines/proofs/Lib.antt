pub mod Pieces
pub mod TextLines
pub mod Entries
mod BytesBefore
mod NoContext
pub mod Stops
pub mod ContextLines
