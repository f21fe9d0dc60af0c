pub mod Rows
pub mod Factors
