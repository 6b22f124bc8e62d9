pub mod Extended
pub mod Messages
pub mod Local
pub mod Made
