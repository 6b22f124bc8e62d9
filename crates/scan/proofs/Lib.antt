pub mod Scores
pub mod Scans
pub mod Cases
