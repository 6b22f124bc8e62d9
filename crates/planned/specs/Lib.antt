pub mod Planned
pub mod Columns
