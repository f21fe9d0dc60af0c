pub mod Atoms
pub mod Elimination
pub mod Examples
pub mod GivenLaws
pub mod ItemLaws
pub mod SeriesLaws
pub mod StarLaws
pub mod TapeSeries
pub mod TapeTerms
pub mod TermLaws
mod IdentityLaws
mod Forms
mod RawTrees
mod KeptLaws
mod Same
mod Basic
mod EntryLabels
mod ExpansionLaws
mod DerivedNumber
mod NormalForms
mod Within
mod Rests
mod Neat
mod Accessible
mod DerivedKept
mod Places
