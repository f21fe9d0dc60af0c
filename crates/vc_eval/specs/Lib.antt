pub mod Forward
pub mod Positions
pub mod Moves
pub mod LetterMoves
pub mod Cells
pub mod Ready
pub mod Marks
pub mod Runs
