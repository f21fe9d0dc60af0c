-- definitions
pub mod Terms
pub mod Systems
pub mod ItemLists
pub mod Trees
pub mod Identities
pub mod Forms
pub mod Kept
pub mod KeptTrees
pub mod Same
pub mod SeriesLaws
pub mod Codes
pub mod Expansions
pub mod ItemLaws
pub mod DerivedTerms
