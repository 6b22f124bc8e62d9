pub mod Names
pub mod Numbers
pub mod Moved
pub mod Lies
