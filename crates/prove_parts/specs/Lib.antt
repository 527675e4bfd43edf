pub mod Flat
pub mod Order
pub mod Shape
pub mod Structure
