pub mod Joins
pub mod Cuts
