pub mod Found
pub mod Cuts
pub mod Ranges
pub mod Spelled
