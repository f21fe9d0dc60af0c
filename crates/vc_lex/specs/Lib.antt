pub mod Fronts
pub mod Grammar
pub mod Scans
pub mod Lexers
pub mod Marks
pub mod Views
pub mod Parts
pub mod Labels
