pub mod Spelling
pub mod Sets
pub mod Canonical
pub mod Reading
pub mod Gathered
