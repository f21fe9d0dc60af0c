pub mod Lines
pub mod Spelling
pub mod Requests
pub mod Views
pub mod Parsers
