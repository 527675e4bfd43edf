pub mod Carries
pub mod Modes
pub mod Resolving
pub mod Same
pub mod Solved
