pub mod Nullable
pub mod Descriptor
pub mod Groups
pub mod Reading
pub mod Run
pub mod Exchange
