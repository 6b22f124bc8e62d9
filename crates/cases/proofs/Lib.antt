pub mod Compute
pub mod Cases
pub mod Wrong
pub mod Exchange
