pub mod Growth
pub mod Names
pub mod OneFile
pub mod Pieces
