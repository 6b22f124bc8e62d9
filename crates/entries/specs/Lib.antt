pub mod Named
pub mod Part
pub mod Lists
pub mod Refused
