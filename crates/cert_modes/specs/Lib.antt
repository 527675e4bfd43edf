pub mod Claimed
pub mod Failing
pub mod Marks
pub mod Modes
pub mod Sets
pub mod Shaped
