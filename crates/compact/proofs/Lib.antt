pub mod Stops
pub mod Laws
pub mod Names
pub mod Runs
pub mod Cases
