pub mod Empty
pub mod Strings
pub mod Windows
