pub mod Refusal
pub mod Room
pub mod Bytes
