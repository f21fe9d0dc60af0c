pub mod Parts
pub mod WordCuts
pub mod Over
