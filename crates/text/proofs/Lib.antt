pub mod Alphabets
pub mod Trim
pub mod Decode
pub mod Generated
pub mod Bytes
