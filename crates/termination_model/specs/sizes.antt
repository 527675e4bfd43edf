pub mod Replacing
pub mod Rows
pub mod Short
pub mod ShortSystems
pub mod Sizes
pub mod Stated
pub mod Systems
