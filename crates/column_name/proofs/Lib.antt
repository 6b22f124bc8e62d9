pub mod Written
pub mod Cases
