pub mod Consistent
pub mod Few
pub mod Lists
pub mod Exchange
