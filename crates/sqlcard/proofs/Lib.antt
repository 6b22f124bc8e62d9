pub mod Cards
pub mod Alones
pub mod Groups
pub mod Cases
