pub mod Counting
pub mod Cases
