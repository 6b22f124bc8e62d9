pub mod Ascii
pub mod Squeezed
pub mod Blocks
pub mod Words
pub mod Text
