pub mod ConjugateLaws
pub mod TableLaws
