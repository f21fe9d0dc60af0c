pub mod Runs
pub mod Pairs
pub mod Conjunctions
pub mod Products
pub mod Orders
pub mod Shuffles
