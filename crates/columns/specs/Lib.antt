pub mod Blank
pub mod Cut
pub mod Finer
pub mod Row
pub mod Graphic
pub mod Consistent
