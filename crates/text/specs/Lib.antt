pub mod Alphabet
pub mod Chars
pub mod Text
pub mod Generated
