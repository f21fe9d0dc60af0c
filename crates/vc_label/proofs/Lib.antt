pub mod Letters
pub mod Cuts
pub mod Alphabets
pub mod Bits
pub mod Least
pub mod Sets
