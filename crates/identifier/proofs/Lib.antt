pub mod Trims
pub mod Spaces
pub mod Identifiers
pub mod Cases
