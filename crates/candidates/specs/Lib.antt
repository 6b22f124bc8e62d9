pub mod Candidates
pub mod View
