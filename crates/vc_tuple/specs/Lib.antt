pub mod Parts
pub mod Tuples
pub mod Laws
