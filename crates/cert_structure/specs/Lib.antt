pub mod Numbered
pub mod Order
pub mod Shape
pub mod SharedFacts
pub mod Structure
pub mod StructureFault
pub mod Walk
