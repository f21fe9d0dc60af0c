-- definitions
pub mod LetterProducts
pub mod Joins
pub mod JoinMoves
pub mod Projections
pub mod Compositions
