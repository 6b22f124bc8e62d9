pub mod Layouts
pub mod Cases
pub mod Runs
