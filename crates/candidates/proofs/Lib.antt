pub mod Steps
pub mod Inside
