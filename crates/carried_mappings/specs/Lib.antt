pub mod Carrying
pub mod FoundMappings
pub mod Moved
pub mod Order
pub mod Reordered
pub mod Reorderings
