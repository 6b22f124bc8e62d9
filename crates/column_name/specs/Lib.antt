pub mod Part
pub mod Name
