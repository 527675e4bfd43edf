pub mod Targets
pub mod Drops
pub mod StuckGroups
pub mod Shape
pub mod Testing
pub mod Laws
