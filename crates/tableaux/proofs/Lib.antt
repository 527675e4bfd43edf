pub mod Points
pub mod Refutations
