pub mod Steps
pub mod Sums
pub mod Texts
pub mod WeightBytes
pub mod Splits
pub mod Weighed
