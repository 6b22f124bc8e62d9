pub mod Listed
pub mod Cut
