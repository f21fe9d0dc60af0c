pub mod Composed
pub mod CompositionLaws
pub mod JoinCircuits
pub mod JoinLaws
pub mod JoinSound
pub mod LetterProducts
pub mod ProjectionLaws
