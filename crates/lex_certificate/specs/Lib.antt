pub mod Flat
pub mod Lines
pub mod Order
pub mod Shape
pub mod Structure
pub mod Text
pub mod Walk
pub mod Written
