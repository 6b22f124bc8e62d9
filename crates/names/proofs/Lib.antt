pub mod Choosing
pub mod Deciding
pub mod Cases
