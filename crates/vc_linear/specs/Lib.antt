-- definitions
pub mod Conjugates
pub mod Tables
