pub mod Replies
pub mod Questions
pub mod Collection
