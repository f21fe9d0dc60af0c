pub mod Parts
pub mod Digits
pub mod FoundNames
pub mod PlaceNames
pub mod MarkedNumbers
pub mod EntryLabels
pub mod CheckedLines
pub mod ClassLetters
pub mod Additions
pub mod TokenWeights
pub mod AddedLines
pub mod NameOrder
pub mod AddedStates
pub mod PassAnswers
pub mod Sums
mod WrittenNames
mod OneNumbering
mod LineNames
mod ExclusiveReadings
pub mod TripleOrder
mod OneAutomaton
mod RefusedAdditions
mod TripleLimits
pub mod TakenAdditions
