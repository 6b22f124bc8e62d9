pub mod Width
pub mod Inside
