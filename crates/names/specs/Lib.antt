pub mod Names
pub mod Decision
