pub mod Labels
pub mod Optional
