pub mod Message
pub mod Squeezed
