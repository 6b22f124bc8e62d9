pub mod Words
pub mod Columns
pub mod Held
pub mod Place
