pub mod Code
pub mod Extension
pub mod Message
