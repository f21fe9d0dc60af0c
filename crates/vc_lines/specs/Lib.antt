pub mod Pieces
pub mod Lines
pub mod Grammar
pub mod Names
pub mod Views
pub mod Heads
pub mod ContextLines
pub mod Contexts
