pub mod Words
pub mod Columns
pub mod Chunks
pub mod Back
