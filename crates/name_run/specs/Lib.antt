pub mod Layout
pub mod Run
