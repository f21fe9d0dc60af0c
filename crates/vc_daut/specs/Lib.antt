pub mod Canonical
pub mod Growing
