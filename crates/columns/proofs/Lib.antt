pub mod Places
pub mod Cutting
pub mod Summing
pub mod Same
pub mod Finer
pub mod Rows
pub mod Cases
